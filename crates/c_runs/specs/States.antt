-- States of a run (C11 5.1.2.3, 6.2.4), and how annotations see them (ACSL 2.4.3).
use Rattle.std.specs.Prelude.{ℕ, zero, suc, ◌+◌, ◌-◌, ◌==◌, nat_lt, Bool, true, false, ◌&&◌, not, if◌then◌else◌, ℤ, pos, negsuc, List, [], ◌∷◌, Option, Some, None}
use Rattle.wp_base.specs.Blocks.{Table}
use Rattle.typed_prog.specs.declared.operators.Variable as code
use Rattle.typed_prog.specs.declared.operators.Variable.TheVariants as variable
use Rattle.c_runs.specs.TruthTold.{is_zero, is_equal}
use Rattle.c_runs.specs.TruthStates.{Value, number, pointer, State, null, block_of, offset_of, number_of}
use Rattle.c_runs.specs.Program.{Variable, Facts}

-- ---- what variables hold

-- A variable of the function that runs, which no pointer leads to: what it holds, and whether a value was set. Any other one is a block of the table.
pub data Local : Type 0 where
  plain : (held : Value) (is_set : Bool) → Local
  home : (block : ℤ) → Local

-- The blocks of the table and what is in their cells. The variables of the file that no pointer leads to are the cells at offset 0 of blocks -1, -2, ..
pub record Memory : Type 0 where
  pub blocks : Table
  pub cells : (block offset : ℤ) → Value

-- The turns and the contents that are left; and the variables of the function that runs. Those of its callers stand still.
pub record World : Type 0 where
  pub turns : ℕ
  pub contents : List Value
  pub memory : Memory
  pub locals : ℕ → Local

abbrev pub at : {X : Type 0} → ℕ → X → (ℕ → X) → ℕ → X
at x v f y = if x == y then v else f y

abbrev pub with_local : (variable : ℕ) → Local → World → World
with_local x l w = record w { locals = at x l w.locals }

abbrev pub with_memory : Memory → World → World
with_memory m w = record w { memory = m }

abbrev pub unset : Local
unset = plain (number (pos 0)) false

abbrev pub no_locals : ℕ → Local
no_locals x = unset

-- one cell more
abbrev pub with_cell : (block offset : ℤ) → Value → ((block offset : ℤ) → Value) → (block offset : ℤ) → Value
with_cell b o v f b' o' = if is_equal b b' && is_equal o o' then v else f b' o'

abbrev pub stored_in : (block offset : ℤ) → Value → Memory → Memory
stored_in b o v m = record m { cells = with_cell b o v m.cells }

-- what isn't 0 is true (C11 6.8.4.1p2)
abbrev pub is_nonzero : Value → Bool
is_nonzero (number z) = not (is_zero z)
is_nonzero v = not (is_zero (block_of v) && is_zero (offset_of v))

-- ---- variables of the file

abbrev pub count_plain : List Variable → ℕ
count_plain [] = 0
count_plain (v ∷ vs) = if v.is_plain then suc (count_plain vs) else count_plain vs

abbrev pub plain_globals : Facts → ℕ
plain_globals p = count_plain p.globals

-- Blocks 1, 2, .. are those of variables that pointers may lead to, in order of declaration; the others have -1, -2, ..
abbrev pub home_from : (blocks plains : ℕ) → List Variable → (number : ℕ) → ℤ
home_from n k [] x = pos 0
home_from n k (v ∷ vs) zero = if v.is_plain then negsuc k else pos (suc n)
home_from n k (v ∷ vs) (suc x) = if v.is_plain then home_from n (suc k) vs x else home_from (suc n) k vs x

abbrev pub global_home : Facts → (number : ℕ) → ℤ
global_home p x = home_from 0 0 p.globals x

-- ---- what annotations see

-- A variable that no pointer leads to has a block of its own there, whose number is negative: first those of the file, then those of the function.
abbrev pub hidden : Facts → (variable : ℕ) → ℤ
hidden p x = negsuc (plain_globals p + x)

abbrev pub block_of_local : Facts → (variable : ℕ) → Local → ℤ
block_of_local p x (plain v s) = hidden p x
block_of_local p x (home b) = b

abbrev pub home_of : Facts → (locals : ℕ → Local) → code.Variable → ℤ
home_of p ls (variable.Global x) = global_home p x
home_of p ls (variable.Local x) = block_of_local p x (ls x)

abbrev pub held_by : Local → Value
held_by (plain v s) = v
held_by (home b) = number (pos 0)

-- what a cell holds, that of a variable of the function among them
abbrev pub cell_by : Facts → (locals : ℕ → Local) → ((block offset : ℤ) → Value) → (block offset : ℤ) → Value
cell_by p ls f (pos n) o = f (pos n) o
cell_by p ls f (negsuc n) o = if nat_lt n (plain_globals p) then f (negsuc n) o else held_by (ls (n - plain_globals p))

-- a memory, and the variables of a function, as a state in which annotations are read
abbrev pub seen_with : Facts → (locals : ℕ → Local) → Memory → State
seen_with p ls m = record { blocks = m.blocks; cells = cell_by p ls m.cells; home = home_of p ls }

abbrev pub seen : Facts → World → State
seen p w = seen_with p w.locals w.memory

-- Parameters hold these, each by itself, as a contract reads them: it knows their values at entry, and no address of them.
abbrev pub params_from : (first : ℕ) → List Value → ℕ → Local
params_from n [] = no_locals
params_from n (v ∷ vs) = at n (plain v true) (params_from (suc n) vs)

abbrev pub seen_by_contract : Facts → (arguments : List Value) → Memory → State
seen_by_contract p vs m = seen_with p (params_from 0 vs) m

-- ---- what a function carries along

-- The regions that an active call or loop may change, taken when it began, with the number of blocks there were. `declared` is how many variables of
-- the function a loop finds declared, which are changed only where they are named; a call says nothing of variables of its function.
pub record Granted : Type 0 where
  pub regions : List Value
  pub count : ℤ
  pub declared : ℕ

-- What runs: the function; its state at entry; what its measure was then; the state at the entry of the innermost loop; and the sets of all active
-- calls and loops.
pub record Here : Type 0 where
  pub function : ℕ
  pub arguments : List Value
  pub entry : State
  pub measure : Option ℤ
  pub loop_entry : State
  pub granted : List Granted
