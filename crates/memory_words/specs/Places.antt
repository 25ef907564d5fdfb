-- What the slots of a function hold, by places: variables of the file and of the function, what is returned, temporaries, and a memory for each kind of cell.
-- Integers have one slot; pointers two, for the block and for the offset.
use Rattle.std.specs.Prelude.{◌≡◌, ◌<◌, ℕ, zero, suc, ◌+◌, ℤ, pos, List, [], ◌∷◌, ◌++◌, map}
use Rattle.wp_base.specs.declared.kinds.Kind.{Kind}
use Rattle.wp_base.specs.declared.kinds.Kind.TheVariants as kind
use Rattle.wp_base.specs.Kinds.{kind_place}
use Rattle.typed_prog.specs.declared.operators.Variable.{Variable}
use Rattle.typed_prog.specs.declared.operators.Variable.TheVariants as variables
use Rattle.qed_terms.specs.Memory.{Memory}
use Rattle.walk_steps.specs.State.{at_or, put}
use Rattle.memory_steps.specs.State.{Datum, number, cells, State, with_slots, nothing}
use Rattle.memory_steps.specs.Step.{Change}
use Rattle.memory_steps.specs.Run.{Changed}

-- ---- places

pub data Place : Type 0 where
  -- of a variable that no pointer leads to, the integer or the block that its pointer leads to; of any other one the number of its own block
  value : (x : Variable) → Place
  offset : (x : Variable) → Place
  -- 1 where a value was set, and else 0
  flag : (x : Variable) → Place
  -- what the function returns, and what a call has returned
  result : Place
  result_offset : Place
  answer : Place
  answer_offset : Place
  temporary : (number : ℕ) → Place
  temporary_offset : (number : ℕ) → Place
  -- the memory of the cells of a kind of integers, and those of blocks and offsets of the cells of pointers
  numbers : (k : Kind) → Place
  blocks : Place
  offsets : Place

-- how many variables the file and the function have, and how many temporaries
pub record Sizes : Type 0 where
  pub globals : ℕ
  pub locals : ℕ
  pub temporaries : ℕ

abbrev pub variables_in : Sizes → ℕ
variables_in z = z.globals + z.locals

-- there is such a place
abbrev pub IsIn : Sizes → Place → Type 0
IsIn z (value (variables.Global x)) = x < z.globals
IsIn z (value (variables.Local x)) = x < z.locals
IsIn z (offset (variables.Global x)) = x < z.globals
IsIn z (offset (variables.Local x)) = x < z.locals
IsIn z (flag (variables.Global x)) = x < z.globals
IsIn z (flag (variables.Local x)) = x < z.locals
IsIn z (temporary n) = n < z.temporaries
IsIn z (temporary_offset n) = n < z.temporaries
IsIn z a = Unit {0}

-- ---- slots: variables of the file, then those of the function, what is returned, temporaries, and memories in the order of kinds

abbrev pub double : ℕ → ℕ
double zero = zero
double (suc n) = suc (suc (double n))

abbrev pub triple : ℕ → ℕ
triple zero = zero
triple (suc n) = suc (suc (suc (triple n)))

abbrev pub variable_number : Sizes → Variable → ℕ
variable_number z (variables.Global x) = x
variable_number z (variables.Local x) = z.globals + x

abbrev pub behind_variables : Sizes → ℕ
behind_variables z = triple (variables_in z)

abbrev pub behind_temporaries : Sizes → ℕ
behind_temporaries z = behind_variables z + (4 + double z.temporaries)

-- the slot of a place
unfoldable pub slot : Sizes → Place → ℕ
slot z (value x) = triple (variable_number z x)
slot z (offset x) = suc (triple (variable_number z x))
slot z (flag x) = suc (suc (triple (variable_number z x)))
slot z result = behind_variables z
slot z result_offset = behind_variables z + 1
slot z answer = behind_variables z + 2
slot z answer_offset = behind_variables z + 3
slot z (temporary n) = behind_variables z + (4 + double n)
slot z (temporary_offset n) = behind_variables z + (5 + double n)
slot z (numbers k) = behind_temporaries z + kind_place k
slot z blocks = behind_temporaries z + 12
slot z offsets = behind_temporaries z + 13

abbrev pub slots_in : Sizes → ℕ
slots_in z = behind_temporaries z + 14

-- ---- all places in the order of their slots

abbrev pub variable_places : (variable : ℕ → Variable) → (first count : ℕ) → List Place
variable_places f n zero = []
variable_places f n (suc k) = value (f n) ∷ offset (f n) ∷ flag (f n) ∷ variable_places f (suc n) k

abbrev pub temporary_places : (first count : ℕ) → List Place
temporary_places n zero = []
temporary_places n (suc k) = temporary n ∷ temporary_offset n ∷ temporary_places (suc n) k

abbrev pub memory_places : List Place
memory_places =
    numbers kind.Bool ∷ numbers kind.Char ∷ numbers kind.SChar ∷ numbers kind.UChar ∷ numbers kind.Short ∷ numbers kind.UShort ∷ numbers kind.Int
    ∷ numbers kind.UInt ∷ numbers kind.Long ∷ numbers kind.ULong ∷ numbers kind.LLong ∷ numbers kind.ULLong ∷ blocks ∷ offsets ∷ []

unfoldable pub places : Sizes → List Place
places z =
    variable_places variables.Global 0 z.globals ++ (variable_places variables.Local 0 z.locals
    ++ (result ∷ result_offset ∷ answer ∷ answer_offset ∷ (temporary_places 0 z.temporaries ++ memory_places)))

-- ---- what slots hold

abbrev pub held : Sizes → State → Place → Datum
held z st a = at_or nothing st.slots (slot z a)

abbrev pub number_in : Datum → ℤ
number_in (number n) = n
number_in (cells m) = pos 0

abbrev pub memory_in : Datum → Memory
memory_in (number n) = []
memory_in (cells m) = m

abbrev pub number_at : Sizes → State → Place → ℤ
number_at z st a = number_in (held z st a)

abbrev pub memory_at : Sizes → State → Place → Memory
memory_at z st a = memory_in (held z st a)

abbrev pub with_held : Sizes → Place → Datum → State → State
with_held z a d st = with_slots st (put st.slots (slot z a) d)

-- slots in which each place holds this
abbrev pub slots_by : Sizes → (Place → Datum) → List Datum
slots_by z f = map f (places z)

-- a change of each place
abbrev pub changes_by : Sizes → (Place → Change) → List Change
changes_by z f = map f (places z)

-- ---- what is so

-- two states that hold the same at each place
abbrev pub HoldTheSame : Sizes → (xs ys : List Datum) → Type 0
HoldTheSame z xs ys = (a : Place) → IsIn z a → at_or nothing xs (slot z a) ≡ at_or nothing ys (slot z a)

-- each place has changed as it may
abbrev pub ChangedBy : Sizes → List State → (Place → Change) → (old new : List Datum) → Type 0
ChangedBy z sts f xs ys = (a : Place) → IsIn z a → Changed sts (f a) (at_or nothing xs (slot z a)) (at_or nothing ys (slot z a))
