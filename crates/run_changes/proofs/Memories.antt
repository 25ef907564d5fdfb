-- What a memory keeps of the one in which a call or a loop began, where each write was in its set of regions.
use Rattle.std.proofs.Common.{◌≡◌, ℕ, zero, suc, ◌<◌, ◌≤◌, ℤ, pos, negsuc, ◌+ℤ◌, ◌-ℤ◌, ◌-◌, nat_lt, Bool, true, false, ◌||◌, if◌then◌else◌, List, [], ◌∷◌, ◌++◌, length, slice_get, refl, sym, ap, ◌∙◌, subst, arith, length-append}
use Rattle.std.specs.Prelude.{int_le}
use Rattle.std.specs.Option.{unwrap_or}
use Rattle.std.proofs.lemmas.Bool.{false≢true}
use Rattle.std.proofs.lemmas.Int.{ints}
use Rattle.wp_base.specs.declared.kinds.CellKind.{CellKind}
use Rattle.wp_base.specs.Blocks.{Table, block_of, count, block_at, block_cells, has_cell, is_cell, endeds, to_nat}
use Rattle.c_kinds.proofs.Converting.{test_le}
use Rattle.c_runs.specs.TruthStates.{Value, number, nothing_of, is_negative}
use Rattle.c_runs.specs.TruthAllowed.{lies_in, is_named, Allows}
use Rattle.c_runs.specs.Program.{Facts, Variable}
use Rattle.c_runs.specs.States.{Local, Memory, Granted, stored_in, plain_globals, cell_by, params_from, seen_by_contract, held_by, global_home}
use Rattle.c_runs.specs.Claims.{lets_cell}
use Rattle.c_runs.specs.Scopes.{cleared, with_block, ended_since}
use Rattle.c_runs.specs.Effects.{cell_in}
use Rattle.run_changes.proofs.Tables.{IsOld, IsNew, is_old, not_both, before_count, found_first, block_stays, with_cell_by, lies_same, there}

-- Old blocks stand, and what lies in no region holds what it held, so a variable of the file that none of them names.
pub record Kept (rs : List Value) (before m : Memory) : Type 0 where
  pub more : length before.blocks ≤ length m.blocks
  pub blocks : (i : ℕ) → i < length before.blocks → slice_get m.blocks i ≡ slice_get before.blocks i
  pub cells : (k : CellKind) (b o : ℤ) → is_cell k before.blocks b o ≡ true → lies_in rs k b o ≡ false → m.cells b o ≡ before.cells b o
  pub globals : (n : ℕ) (o : ℤ) → is_named rs (negsuc n) ≡ false → m.cells (negsuc n) o ≡ before.cells (negsuc n) o

pub kept_none : (rs : List Value) (m : Memory) → Kept rs m m
kept_none rs m = record { more = omega arith; blocks = λ i h. refl; cells = λ k b o is out. refl; globals = λ n o out. refl }

-- the cell at this address may be changed
pub record MayBe (rs : List Value) (before : Memory) (b o : ℤ) : Type 0 where
  pub cell : (k : CellKind) → is_cell k before.blocks b o ≡ true → lies_in rs k b o ≡ true
  pub global : (n : ℕ) → b ≡ negsuc n → is_named rs b ≡ true

module _ (rs : List Value) (before : Memory) where
  pub kept_stored : (m : Memory) (b o : ℤ) (v : Value) → MayBe rs before b o → Kept rs before m → Kept rs before (stored_in b o v m)
  kept_stored m b o v may a = record {
    more = a.more;
    blocks = a.blocks;
    cells = λ k b' o' is out. with_cell_by (λ x. x ≡ before.cells b' o') b o b' o' v m.cells
        (λ eb eo.
        let y = may.cell k (ap (λ z. is_cell k before.blocks z o) eb ∙ ap (λ z. is_cell k before.blocks b' z) eo ∙ is) in
        absurd (false≢true (sym out ∙ sym (ap (λ z. lies_in rs k z o) eb ∙ ap (λ z. lies_in rs k b' z) eo) ∙ y)))
        (a.cells k b' o' is out);
    globals = λ n o' out. with_cell_by (λ x. x ≡ before.cells (negsuc n) o') b o (negsuc n) o' v m.cells
        (λ eb eo. absurd (false≢true (sym out ∙ sym (ap (is_named rs) eb) ∙ may.global n eb)))
        (a.globals n o' out);
  }

  -- a new block is nobody's
  pub may_new : (b o : ℤ) → IsNew before.blocks b → MayBe rs before b o
  may_new b o new = record {
    cell = λ k is. absurd (not_both before.blocks b (is_old k before.blocks b o is) new);
    global = λ n e. absurd (subst (IsNew before.blocks) e new);
  }

  pub next_new : (m : Memory) → Kept rs before m → IsNew before.blocks (count m.blocks)
  next_new m a = let le = a.more in omega (arith, le)

  longer : (m : Memory) (u : Table) → Kept rs before m → length before.blocks ≤ length (m.blocks ++ u)
  longer m u a = let e = length-append m.blocks u in let le = a.more in omega (arith, e, le)

  same_blocks : (m : Memory) (u : Table) → Kept rs before m → (i : ℕ) → i < length before.blocks → slice_get (m.blocks ++ u) i ≡ slice_get before.blocks i
  same_blocks m u a i h = let le = a.more in found_first m.blocks u i (omega (arith, h, le)) ∙ a.blocks i h

  pub kept_block : (v : Variable) (m : Memory) → Kept rs before m → Kept rs before (with_block v m)
  kept_block v m a = record { more = longer m (block_of v.layout ∷ []) a; blocks = same_blocks m (block_of v.layout ∷ []) a; cells = a.cells; globals = a.globals }

  pub kept_cleared : (b o : ℤ) (ks : List CellKind) (m : Memory) → IsNew before.blocks b → Kept rs before m → Kept rs before (cleared b o ks m)
  kept_cleared b o [] m new a = a
  kept_cleared b o (k ∷ ks) m new a = kept_cleared b (o +ℤ pos 1) ks (stored_in b o (nothing_of k) m) new (kept_stored m b o (nothing_of k) (may_new b o new) a)

  -- the blocks that were made since m are ended
  pub kept_ended : (m n : Memory) → Kept rs before m → Kept rs before n → Kept rs before (ended_since m n)
  kept_ended m n a c =
      let u = endeds (to_nat (count n.blocks -ℤ count m.blocks)) in
      record {
        more = longer m u a;
        blocks = same_blocks m u a;
        cells = λ k b o is out.
            ap (λ s. if s then n.cells b o else number (pos 0)) (before_count before.blocks m.blocks a.more b (is_old k before.blocks b o is)) ∙ c.cells k b o is out;
        globals = c.globals;
      }

  -- ---- writes

  abbrev pub the_set : Granted
  the_set = record { regions = rs; count = count before.blocks; declared = 0 }

  lies_old : (l : CellKind) (b o : ℤ) → IsOld before.blocks b → lets_cell l b o the_set ≡ true → lies_in rs l b o ≡ true
  lies_old l (pos zero) o old h = absurd old
  lies_old l (pos (suc i)) o old h = by (int_le (count before.blocks) (pos (suc i))) refl h
    where
      by : (t : Bool) → int_le (count before.blocks) (pos (suc i)) ≡ t → (t || lies_in rs l (pos (suc i)) o) ≡ true → lies_in rs l (pos (suc i)) o ≡ true
      by true e h = let le = test_le (count before.blocks) (pos (suc i)) e in absurd (omega (arith, ints, le, old))
      by false e h = h
  lies_old l (negsuc i) o old h = absurd old

  named : (l : CellKind) (b o : ℤ) (n : ℕ) → b ≡ negsuc n → lets_cell l b o the_set ≡ true → is_named rs b ≡ true
  named l b o n e h = subst (λ z. is_named rs z ≡ true) (sym e) (subst (λ z. lets_cell l z o the_set ≡ true) e h)

  -- The kind of the cell that stands there is the one that it had.
  pub may_there : (m : Memory) → Kept rs before m → (k : CellKind) (b o : ℤ) → lets_cell (unwrap_or (cell_in (block_cells (block_at m.blocks b)) o) k) b o the_set ≡ true → MayBe rs before b o
  may_there m a k b o h =
      let found = unwrap_or (cell_in (block_cells (block_at m.blocks b)) o) k in
      record {
        cell = λ l is.
            let old = is_old l before.blocks b o is in
            let stays = block_stays before.blocks m.blocks a.blocks b old in
            let same = there k l (block_cells (block_at m.blocks b)) o (ap (λ x. has_cell l (block_cells x) o) stays ∙ is) in
            lies_same rs l found b o same ∙ lies_old found b o old h;
        global = λ n e. named found b o n e h;
      }

-- ---- as contracts see it

seen_cell : (p : Facts) (ls : ℕ → Local) (f g : (block offset : ℤ) → Value) (b o : ℤ) → f b o ≡ g b o → cell_by p ls f b o ≡ cell_by p ls g b o
seen_cell p ls f g (pos n) o h = h
seen_cell p ls f g (negsuc n) o h =
    ap (λ z. if nat_lt n (plain_globals p) then z else held_by (ls (n - plain_globals p))) h

global_cell : (rs : List Value) (m x : Memory) → Kept rs m x → (b : ℤ) → is_negative b ≡ true → is_named rs b ≡ false → x.cells b (pos 0) ≡ m.cells b (pos 0)
global_cell rs m x a (pos n) neg out = absurd (false≢true neg)
global_cell rs m x a (negsuc n) neg out = a.globals n (pos 0) out

pub allows : (p : Facts) (vs : List Value) (rs : List Value) (m x : Memory) → Kept rs m x → Allows rs (seen_by_contract p vs m) (seen_by_contract p vs x)
allows p vs rs m x a = record {
  cells = λ k b o is out. seen_cell p (params_from 0 vs) x.cells m.cells b o (a.cells k b o is out);
  globals = λ n neg out.
      let b = global_home p n in seen_cell p (params_from 0 vs) x.cells m.cells b (pos 0) (global_cell rs m x a b neg out);
}
