-- States of a function as lists of numbers, where all variables of the file and of the function are integers that no pointer leads to. Each variable has two
-- slots: what it holds, and 1 where a value was set. Those of the file come first, then those of the function in their order; behind them stand the result,
-- the result of a call, and the temporaries.
use Rattle.std.specs.Prelude.{ℕ, zero, suc, ◌+◌, nat_lt, ℤ, pos, negsuc, ◌&&◌, if◌then◌else◌, List, [], ◌∷◌, length}
use Rattle.qed_terms.specs.Operators.{is_zero, is_equal}
use Rattle.c_runs.specs.Told.{Value, number}
use Rattle.c_runs.specs.Program.{Variable, Facts}
use Rattle.c_runs.specs.States.{Local, plain, unset, Memory, World}
use Rattle.c_runs.specs.Values.{Temps}
use Rattle.c_runs.specs.CoreRun.{CoreWorld}

-- ---- lists of slots

abbrev pub State : Type 0
State = List ℤ

-- the item at a place, or this one
abbrev pub at_or : {X : Type 0} → X → List X → ℕ → X
at_or x [] i = x
at_or x (y ∷ ys) zero = y
at_or x (y ∷ ys) (suc i) = at_or x ys i

-- with another item at a place
abbrev pub put : {X : Type 0} → List X → ℕ → X → List X
put [] i y = []
put (x ∷ xs) zero y = y ∷ xs
put (x ∷ xs) (suc i) y = x ∷ put xs i y

-- ---- which slot

abbrev pub double : ℕ → ℕ
double zero = zero
double (suc n) = suc (suc (double n))

-- the slot of what the variable with this number holds, and of whether it was set
abbrev pub value_slot : (variable : ℕ) → ℕ
value_slot x = double x

abbrev pub flag_slot : (variable : ℕ) → ℕ
flag_slot x = suc (double x)

-- how many variables the file and the function have
pub record Sizes : Type 0 where
  pub globals : ℕ
  pub locals : ℕ

abbrev pub sizes_of : Facts → List Variable → Sizes
sizes_of p xs = record { globals = length p.globals; locals = length xs }

abbrev pub local_value : Sizes → (variable : ℕ) → ℕ
local_value z x = value_slot (z.globals + x)

abbrev pub local_flag : Sizes → (variable : ℕ) → ℕ
local_flag z x = flag_slot (z.globals + x)

abbrev pub result_slot : Sizes → ℕ
result_slot z = double (z.globals + z.locals)

abbrev pub answer_slot : Sizes → ℕ
answer_slot z = suc (double (z.globals + z.locals))

abbrev pub temp_slot : Sizes → (temporary : ℕ) → ℕ
temp_slot z n = suc (suc (double (z.globals + z.locals))) + n

-- ---- the world that slots tell: beside the variables of the file it has this memory

abbrev pub at : State → ℕ → ℤ
at st i = at_or (pos 0) st i

abbrev pub held : State → ℕ → Value
held st i = number (at st i)

abbrev pub local_in : Sizes → State → ℕ → Local
local_in z st x = if nat_lt x z.locals then plain (held st (local_value z x)) (is_equal (pos 1) (at st (local_flag z x))) else unset

abbrev pub cell_in : Sizes → ((block offset : ℤ) → Value) → State → (block offset : ℤ) → Value
cell_in z f st (pos n) o = f (pos n) o
cell_in z f st (negsuc n) o = if nat_lt n z.globals && is_zero o then held st (value_slot n) else f (negsuc n) o

abbrev pub memory_in : Sizes → Memory → State → Memory
memory_in z m st = record { blocks = m.blocks; cells = cell_in z m.cells st }

abbrev pub world_in : Sizes → Memory → (turns : ℕ) → (contents : List Value) → State → World
world_in z m n vs st = record { turns = n; contents = vs; memory = memory_in z m st; locals = local_in z st }

abbrev pub temps_in : Sizes → State → Temps
temps_in z st n = held st (temp_slot z n)

abbrev pub core_in : Sizes → Memory → (turns : ℕ) → (contents : List Value) → State → CoreWorld
core_in z m n vs st = record { world = world_in z m n vs st; temps = temps_in z st }

-- ---- changes of slots

abbrev pub with_temp_slot : Sizes → (temporary : ℕ) → ℤ → State → State
with_temp_slot z n v st = put st (temp_slot z n) v

-- a variable that is set
abbrev pub with_variable : (variable : ℕ) → (value flag : ℤ) → State → State
with_variable x v s st = put (put st (value_slot x) v) (flag_slot x) s

-- how long the list of slots is, with so many temporaries
abbrev pub slots : Sizes → (temporaries : ℕ) → ℕ
slots z n = temp_slot z n
