-- Where the promises of a report begin: well-formed states, in which a function is entered with arguments of its types (C11 5.1.2.2, 6.5.2.2; ACSL 2.3.1).
use Rattle.std.specs.Prelude.{◌≡◌, ℕ, zero, suc, Bool, true, false, ◌&&◌, ◌||◌, not, if◌then◌else◌, ℤ, pos, negsuc, neg_ℤ, int_le, int_lt, nat_lt, List, [], ◌∷◌, Option, Some, None, length, slice_get}
use Rattle.wp_base.specs.declared.kinds.CellKind.{CellKind}
use Rattle.wp_base.specs.declared.kinds.CellKind.TheVariants as cell
use Rattle.wp_base.specs.Blocks.{Table, count, has_layout, len, is_cell}
use Rattle.c_kinds.specs.Models.{holds, high, difference_kind}
use Rattle.c_runs.specs.TruthTold.{is_zero}
use Rattle.c_runs.specs.TruthStates.{Value, number, pointer}
use Rattle.c_runs.specs.Program.{Variable, Function, Facts, Program}
use Rattle.c_runs.specs.States.{Memory, global_home, plain_globals}
use Rattle.c_runs.specs.Scopes.{scalar_of}
use Rattle.c_runs.specs.Claims.{Stop, at_entry, required}

-- ---- values

-- a block that was made, or that of a variable of the file which no pointer of a program leads to
abbrev pub is_block : Facts → Table → ℤ → Bool
is_block p t b = int_lt b (count t) && int_le (neg_ℤ (pos (plain_globals p))) b

-- a value of the kind
abbrev pub is_value : Facts → Table → CellKind → Value → Bool
is_value p t (cell.Of k) (number z) = holds p.model k z
is_value p t cell.Ptr (pointer b o) = is_block p t b
is_value p t k v = false

-- ---- states

-- where a variable of the file stands
abbrev pub is_placed : Facts → Memory → (block : ℤ) → Variable → Bool
is_placed p m b v = if v.is_plain then is_value p m.blocks (scalar_of v.layout.cells) (m.cells b (pos 0)) else has_layout m.blocks b v.layout

-- where a variable of the file stands that no pointer leads to
abbrev pub is_home : Facts → (block offset : ℤ) → Bool
is_home p (pos n) o = false
is_home p (negsuc n) o = nat_lt n (plain_globals p) && is_zero o

pub record IsWellFormed (p : Facts) (m : Memory) : Type 0 where
  -- the variables of the file have their blocks, and those that no pointer leads to a value of their kind
  pub globals : (x : ℕ) (v : Variable) → slice_get p.globals x ≡ Some v → is_placed p m (global_home p x) v ≡ true
  -- each cell of a live block holds a value of its kind
  pub cells : (k : CellKind) (b o : ℤ) → is_cell k m.blocks b o ≡ true → is_value p m.blocks k (m.cells b o) ≡ true
  -- every other address holds 0
  pub elsewhere : (b o : ℤ) → is_home p b o ≡ false → ((k : CellKind) → is_cell k m.blocks b o ≡ false) → m.cells b o ≡ number (pos 0)
  -- two pointers into a block have a difference (C11 6.5.6p9)
  pub short : (b : ℤ) → int_le (len m.blocks b) (high p.model (difference_kind p.model)) ≡ true

-- ---- arguments

-- for each parameter a value of its kind
abbrev pub are_arguments : Facts → Table → (params : ℕ) → List Variable → List Value → Bool
are_arguments p t zero xs [] = true
are_arguments p t (suc n) (x ∷ xs) (v ∷ vs) = is_value p t (scalar_of x.layout.cells) v && are_arguments p t n xs vs
are_arguments p t n xs vs = false

-- no pointer leads to a variable of the file whose address is never taken, as no pointer of a program does
abbrev pub leads_well : Value → Bool
leads_well (pointer b o) = int_le (pos 0) b
leads_well v = true

abbrev pub all_lead_well : List Value → Bool
all_lead_well [] = true
all_lead_well (v ∷ vs) = leads_well v && all_lead_well vs

-- ---- entry

-- a state in which a function is entered as it asks for
pub record Enters {B : Type 0} (p : Program B) (f : Function B) (vs : List Value) (m : Memory) : Type 0 where
  pub state : IsWellFormed p.facts m
  pub arguments : are_arguments p.facts m.blocks f.params f.variables vs ≡ true
  pub required : required p.facts 0 (at_entry p.facts vs m) f.contract ≡ None
  pub pointers : all_lead_well vs ≡ true
  pub cells : (b o : ℤ) → leads_well (m.cells b o) ≡ true
