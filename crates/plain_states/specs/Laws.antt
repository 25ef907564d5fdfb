-- What is so of slots.
use Rattle.std.specs.Prelude.{◌≡◌, ◌<◌, ◌≤◌, ℕ, ◌+◌, ℤ, pos, negsuc, true, false, List, length}
use Rattle.c_runs.specs.Told.{Value, number}
use Rattle.c_runs.specs.States.{plain, Memory, with_local, with_memory, stored_in}
use Rattle.c_runs.specs.CoreRun.{with_temp, in_world}
use Rattle.plain_states.specs.Slots.{State, Sizes, with_temp_slot, with_variable, result_slot, temp_slot, world_in, core_in, memory_in}

-- A temporary, a variable of the function and one of the file that get a value, as changes of slots.
pub record PutsAreChanges (z : Sizes) (m : Memory) (n : ℕ) (vs : List Value) (st : State) : Type 0 where
  pub temporary : (i : ℕ) (v : ℤ) → temp_slot z i < length st → with_temp i (number v) (core_in z m n vs st) ≡ core_in z m n vs (with_temp_slot z i v st)
  pub set : (x : ℕ) (v : ℤ) → x < z.locals → result_slot z ≤ length st
      → in_world (core_in z m n vs st) (with_local x (plain (number v) true) (world_in z m n vs st)) ≡ core_in z m n vs (with_variable (z.globals + x) v (pos 1) st)
  pub unset : (x : ℕ) (v : ℤ) → x < z.locals → result_slot z ≤ length st
      → in_world (core_in z m n vs st) (with_local x (plain (number v) false) (world_in z m n vs st)) ≡ core_in z m n vs (with_variable (z.globals + x) v (pos 0) st)
  pub of_file : (x : ℕ) (v : ℤ) → x < z.globals → result_slot z ≤ length st
      → in_world (core_in z m n vs st) (with_memory (stored_in (negsuc x) (pos 0) (number v) (memory_in z m st)) (world_in z m n vs st))
      ≡ core_in z m n vs (with_variable x v (pos 1) st)

abbrev pub ChangesArePuts : Type 0
ChangesArePuts = (z : Sizes) (m : Memory) (n : ℕ) (vs : List Value) (st : State) → PutsAreChanges z m n vs st
