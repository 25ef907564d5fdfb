-- What is so of the core program of a program, in memory.
use Rattle.std.specs.Prelude.{◌≡◌, ℕ, true, List, Some}
use Rattle.c_runs.specs.TruthStates.{Value}
use Rattle.c_runs.specs.Program as p
use Rattle.c_runs.specs.States.{Memory}
use Rattle.c_runs.specs.Run as spelled
use Rattle.c_runs.specs.Core.{Cores}
use Rattle.c_runs.specs.CoreRun as core
use Rattle.c_runs.specs.NormalLaws.{are_core}
use Rattle.c_runs.specs.Normal.{normal}
use Rattle.program_trees.specs.declared.files.Program.{Program}
use Rattle.program_trees.specs.declared.files.CoreProgram.{CoreProgram}
use Rattle.program_trees.specs.View.{view_program, view_core_program}

-- each run has the outcome of the program as spelled, and no effect, connective or choice is in an expression
pub record RunsAsSpelled (q : Program) (made : CoreProgram) : Type 0 where
  pub outcome : (f : ℕ) (vs : List Value) (m : Memory) (n : ℕ) (contents : List Value)
      → core.run_function (view_core_program made) f vs m n contents ≡ spelled.run_function (view_program q) f vs m n contents
  pub pure : (k : ℕ) (f : p.Function Cores) → (view_core_program made).functions k ≡ Some f → are_core f.body ≡ true

-- what the code makes of a program
abbrev pub CoreRunsAsSpelled : Type 0
CoreRunsAsSpelled = (q : Program) (made : CoreProgram) → view_core_program made ≡ normal (view_program q) → RunsAsSpelled q made
