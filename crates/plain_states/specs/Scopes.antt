-- Scopes and calls as changes of slots.
use Rattle.std.specs.Prelude.{◌≡◌, ◌<◌, ℕ, zero, suc, ◌+◌, ℤ, pos, int_lt, Bool, true, false, ◌&&◌, if◌then◌else◌, List, [], ◌∷◌, ◌++◌, Option, Some, None, slice_get}
use Rattle.wp_base.specs.declared.kinds.CellKind.{CellKind}
use Rattle.wp_base.specs.declared.kinds.CellKind.TheVariants as cell
use Rattle.wp_base.specs.declared.kinds.Kind.{Kind}
use Rattle.wp_base.specs.declared.kinds.Kind.TheVariants as kind
use Rattle.wp_base.specs.Blocks.{count}
use Rattle.c_runs.specs.Told.{Value, number, number_of}
use Rattle.c_runs.specs.Program.{Variable, Facts}
use Rattle.c_runs.specs.States.{Memory}
use Rattle.c_runs.specs.Scopes.{next_content, others, scalar_of}
use Rattle.plain_states.specs.Slots.{State, Sizes, sizes_of, double, with_variable}

-- ---- variables that are integers

abbrev pub are_one_integer : List CellKind → Bool
are_one_integer (cell.Of k ∷ []) = true
are_one_integer ks = false

-- an integer that no pointer leads to
abbrev pub is_integer : Variable → Bool
is_integer v = v.is_plain && are_one_integer v.layout.cells

abbrev pub kind_in : List CellKind → Kind
kind_in (cell.Of k ∷ ks) = k
kind_in ks = kind.Int

abbrev pub kind_of : Variable → Kind
kind_of v = kind_in v.layout.cells

-- ---- scopes

-- what a variable holds at first, whether that counts as set, and the contents that are left
abbrev pub first_value : Facts → (blocks : ℤ) → Variable → (contents : List Value) → ℤ
first_value p n v vs = if v.has_value then pos 0 else number_of (next_content p n (scalar_of v.layout.cells) vs)

abbrev pub first_flag : Variable → ℤ
first_flag v = if v.has_value then pos 1 else pos 0

abbrev pub left_contents : Variable → (contents : List Value) → List Value
left_contents v vs = if v.has_value then vs else others vs

module _ (p : Facts) (xs : List Variable) (n : ℤ) where
  abbrev pub made_state : (variable : ℕ) → Option Variable → (contents : List Value) → State → State
  made_state x None vs st = st
  made_state x (Some v) vs st = with_variable ((sizes_of p xs).globals + x) (first_value p n v vs) (first_flag v) st

  abbrev pub made_contents : Option Variable → (contents : List Value) → List Value
  made_contents None vs = vs
  made_contents (Some v) vs = left_contents v vs

  -- a block is entered
  abbrev pub scope_state : (block : List ℕ) → (contents : List Value) → State → State
  scope_state [] vs st = st
  scope_state (x ∷ ys) vs st = scope_state ys (made_contents (slice_get xs x) vs) (made_state x (slice_get xs x) vs st)

  abbrev pub scope_contents : (block : List ℕ) → (contents : List Value) → List Value
  scope_contents [] vs = vs
  scope_contents (x ∷ ys) vs = scope_contents ys (made_contents (slice_get xs x) vs)

-- a block is left
abbrev pub without_variables : Sizes → (block : List ℕ) → State → State
without_variables z [] st = st
without_variables z (x ∷ ys) st = without_variables z ys (with_variable (z.globals + x) (pos 0) (pos 0) st)

-- ---- calls

abbrev pub zeros : ℕ → State
zeros zero = []
zeros (suc n) = pos 0 ∷ zeros n

-- the first of these slots, and as many as there should be
abbrev pub first_slots : ℕ → State → State
first_slots zero st = []
first_slots (suc n) [] = pos 0 ∷ first_slots n []
first_slots (suc n) (x ∷ st) = x ∷ first_slots n st

abbrev pub later_slots : ℕ → State → State
later_slots zero st = st
later_slots (suc n) [] = []
later_slots (suc n) (x ∷ st) = later_slots n st

-- arguments are set
abbrev pub argument_slots : List ℤ → State
argument_slots [] = []
argument_slots (v ∷ vs) = v ∷ pos 1 ∷ argument_slots vs

-- a function is entered with these arguments: it has so many slots more
abbrev pub entry_state : (globals : ℕ) → List ℤ → (more : ℕ) → State → State
entry_state g vs n st = first_slots (double g) st ++ (argument_slots vs ++ zeros n)

-- behind a call the variables of the file are as the call left them
abbrev pub behind_state : (globals : ℕ) → (after before : State) → State
behind_state g after before = first_slots (double g) after ++ later_slots (double g) before

-- ---- memories

-- what lies behind the blocks of the table is 0, as in a well-formed state
abbrev pub IsClean : Memory → Type 0
IsClean m = (k : ℕ) (o : ℤ) → int_lt (pos k) (count m.blocks) ≡ false → m.cells (pos k) o ≡ number (pos 0)

-- the variables of a block are ones of the function
abbrev pub AllBelow : ℕ → List ℕ → Type 0
AllBelow n [] = Unit {0}
AllBelow n (x ∷ ys) = (x < n) × AllBelow n ys
