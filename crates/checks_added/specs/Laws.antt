-- What is so of the core program of a program, with its checks.
use Rattle.std.specs.Prelude.{◌≡◌, ℕ, List}
use Rattle.c_runs.specs.TruthStates.{Value}
use Rattle.c_runs.specs.States.{Memory}
use Rattle.c_runs.specs.Run as spelled
use Rattle.c_runs.specs.Normal.{normal}
use Rattle.c_runs.specs.Adding.{add_checks}
use Rattle.c_runs.specs.CheckedRun as checked
use Rattle.program_trees.specs.declared.files.Program.{Program}
use Rattle.program_trees.specs.declared.files.CoreProgram.{CoreProgram}
use Rattle.program_trees.specs.View.{view_program, view_core_program}
use Rattle.checked_trees.specs.declared.files.CheckedProgram.{CheckedProgram}
use Rattle.checked_trees.specs.View.{view_checked_program}

-- Of a program that was made a core program and got its checks, as the code does both, each run has the outcome of the program as spelled: what is returned, or
-- the kind and the line of what went wrong, the state, and the turns and contents that are left.
abbrev pub ChecksRunAsSpelled : Type 0
ChecksRunAsSpelled =
    (p : Program) (made : CoreProgram) (with_checks : CheckedProgram) → view_core_program made ≡ normal (view_program p)
    → view_checked_program with_checks ≡ add_checks (view_core_program made) → (f : ℕ) (vs : List Value) (m : Memory) (n : ℕ) (contents : List Value)
    → checked.run_function (view_checked_program with_checks) f vs m n contents ≡ spelled.run_function (view_program p) f vs m n contents
