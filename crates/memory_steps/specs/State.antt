-- A state: a list of data, a slot each, of the same length all through a function, and the table of blocks. A memory is the one list of its entries in order.
use Rattle.std.specs.Prelude.{ℕ, ℤ, pos, Bool, true, false, List, [], ◌∷◌}
use Rattle.wp_base.specs.Blocks.{Table}
use Rattle.qed_terms.specs.Memory.{Memory}
use Rattle.same_memories.specs.Canonical.{IsCanonical}

pub data Datum : Type 0 where
  number : (z : ℤ) → Datum
  cells : (m : Memory) → Datum

pub record State : Type 0 where
  pub slots : List Datum
  pub table : Table

abbrev pub state : List Datum → Table → State
state ds t = record { slots = ds; table = t }

abbrev pub with_slots : State → List Datum → State
with_slots st ds = state ds st.table

abbrev pub with_table : State → Table → State
with_table st t = state st.slots t

-- ---- sorts

-- a name of a slot, by which it gets fresh ones, and whether it holds a memory
pub record Base : Type 0 where
  pub name : List ℕ
  pub is_memory : Bool

abbrev pub base : List ℕ → Bool → Base
base x b = record { name = x; is_memory = b }

-- a memory, or a number
abbrev pub HasSort : (is_memory : Bool) → Datum → Type 0
HasSort false (number z) = Unit {0}
HasSort false (cells m) = ⊥
HasSort true (number z) = ⊥
HasSort true (cells m) = Unit {0}

-- a number, or a memory in order
abbrev pub FitsOne : (is_memory : Bool) → Datum → Type 0
FitsOne false (number z) = Unit {0}
FitsOne false (cells m) = ⊥
FitsOne true (number z) = ⊥
FitsOne true (cells m) = IsCanonical m

-- data have the sorts of the bases
abbrev pub HaveSorts : List Base → List Datum → Type 0
HaveSorts [] [] = Unit {0}
HaveSorts [] (d ∷ ds) = ⊥
HaveSorts (b ∷ bases) [] = ⊥
HaveSorts (b ∷ bases) (d ∷ ds) = HasSort b.is_memory d × HaveSorts bases ds

abbrev pub Fits : List Base → List Datum → Type 0
Fits [] [] = Unit {0}
Fits [] (d ∷ ds) = ⊥
Fits (b ∷ bases) [] = ⊥
Fits (b ∷ bases) (d ∷ ds) = FitsOne b.is_memory d × Fits bases ds

-- of the sort of another one, a number or a memory in order
abbrev pub IsLike : (old new : Datum) → Type 0
IsLike (number x) (number y) = Unit {0}
IsLike (number x) (cells n) = ⊥
IsLike (cells m) (number y) = ⊥
IsLike (cells m) (cells n) = IsCanonical n

abbrev pub nothing : Datum
nothing = number (pos 0)
