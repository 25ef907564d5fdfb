-- What a set of regions lets change (ACSL 2.3.4). The set is taken before, so blocks that are made later lie in it.
use Rattle.std.specs.Prelude.{◌≡◌, ℕ, ℤ, pos, Bool, true, false, ◌&&◌, ◌||◌, List, [], ◌∷◌}
use Rattle.std.specs.List.{list_any}
use Rattle.wp_base.specs.declared.kinds.CellKind.{CellKind}
use Rattle.wp_base.specs.Blocks.{is_cell, same_cell}
use Rattle.typed_prog.specs.declared.operators.Variable.{Variable}
use Rattle.typed_prog.specs.declared.operators.Variable.TheVariants as variable
use Rattle.c_runs.specs.TruthStates.{Value, State, cells_of, covers, is_negative}

-- the kind is one of those that stand in a region
abbrev pub has_kind : CellKind → Value → Bool
has_kind k r = list_any (same_cell k) (cells_of r)

-- a cell of this kind at this address, by one and the same region
abbrev pub lies_in : List Value → CellKind → (block offset : ℤ) → Bool
lies_in [] k b o = false
lies_in (r ∷ rs) k b o = (covers r b o && has_kind k r) || lies_in rs k b o

-- a variable whose address is never taken, by its block
abbrev pub is_named : List Value → (block : ℤ) → Bool
is_named [] b = false
is_named (r ∷ rs) b = covers r b (pos 0) || is_named rs b

-- Each cell that was there before, and each variable of the file whose address is never taken, holds what it held, if it doesn't lie in the set.
pub record Allows (rs : List Value) (before behind : State) : Type 0 where
  pub cells : (k : CellKind) (b o : ℤ) → is_cell k before.blocks b o ≡ true → lies_in rs k b o ≡ false → behind.cells b o ≡ before.cells b o
  pub globals : (n : ℕ) → is_negative (before.home (variable.Global n)) ≡ true → is_named rs (before.home (variable.Global n)) ≡ false
      → behind.cells (before.home (variable.Global n)) (pos 0) ≡ before.cells (before.home (variable.Global n)) (pos 0)

-- of several clauses each one counts; a clause without a set isn't among them
abbrev pub AllAllow : List (List Value) → (before behind : State) → Type 0
AllAllow [] s t = Unit {0}
AllAllow (rs ∷ sets) s t = Allows rs s t × AllAllow sets s t

-- ---- what is so

-- one set lies in another
pub record Within (rs qs : List Value) : Type 0 where
  pub cells : (k : CellKind) (b o : ℤ) → lies_in rs k b o ≡ true → lies_in qs k b o ≡ true
  pub names : (b : ℤ) → is_named rs b ≡ true → is_named qs b ≡ true

-- what was a cell is still one, and variables are where they were
pub record LivesOn (s t : State) : Type 0 where
  pub cells : (k : CellKind) (b o : ℤ) → is_cell k s.blocks b o ≡ true → is_cell k t.blocks b o ≡ true
  pub homes : (x : Variable) → t.home x ≡ s.home x

-- Nothing need change; a larger set allows more; and what is allowed twice in turn is allowed at once, as long as nothing ends between.
pub record ChangesAdd : Type 0 where
  pub none : (rs : List Value) (s : State) → Allows rs s s
  pub more : (rs qs : List Value) (s t : State) → Within rs qs → Allows rs s t → Allows qs s t
  pub in_turn : (rs : List Value) (s t u : State) → LivesOn s t → Allows rs s t → Allows rs t u → Allows rs s u
