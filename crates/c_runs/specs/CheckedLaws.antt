-- What is so of core programs with checks.
use Rattle.std.specs.Prelude.{◌≡◌, ℕ, true, List, Some}
use Rattle.c_runs.specs.Told.{Value}
use Rattle.c_runs.specs.Program.{Function, Program}
use Rattle.c_runs.specs.States.{Memory}
use Rattle.c_runs.specs.Core.{Cores}
use Rattle.c_runs.specs.CoreRun as core
use Rattle.c_runs.specs.NormalLaws.{are_core}
use Rattle.c_runs.specs.Adding.{add_checks}
use Rattle.c_runs.specs.CheckedRun.{run_function}

-- no effect, connective or choice is in an expression of the program
abbrev pub IsCore : Program Cores → Type 0
IsCore p = (n : ℕ) (f : Function Cores) → p.functions n ≡ Some f → are_core f.body ≡ true

-- A core program with its checks has the outcome of the program without. So what may be undefined is undefined at the first check that isn't met, and where all
-- are met every expression has its total value, and every write goes to the object that its way leads to.
abbrev pub ChecksKeep : Type 0
ChecksKeep =
    (p : Program Cores) → IsCore p → (f : ℕ) (vs : List Value) (m : Memory) (n : ℕ) (contents : List Value)
    → run_function (add_checks p) f vs m n contents ≡ core.run_function p f vs m n contents
