-- What is promised of the core program.
use Rattle.std.specs.Prelude.{◌≡◌, ℕ, Bool, true, ◌&&◌, List, Option, Some, None}
use Rattle.typed_prog.specs.Tree.{Value}
use Rattle.c_runs.specs.Told.{Value as Held}
use Rattle.c_runs.specs.Program.{Stmts, Variable, Program}
use Rattle.c_runs.specs.States.{Memory}
use Rattle.c_runs.specs.Run as spelled
use Rattle.c_runs.specs.Core.{Target, place, Core, set, store, start, call, branch, repeat, around, exit, give, claim, scope, Cores, end, then_}
use Rattle.c_runs.specs.CoreRun as core
use Rattle.c_runs.specs.Checks.{is_pure, are_pure}
use Rattle.c_runs.specs.Normal.{stmts, normal}

-- For each function, arguments, memory, number of turns and contents it has the outcome of the program as spelled: what is returned, the state, the turns and
-- contents that are left; the state where the turns are spent; or the kind and the line of what went wrong.
abbrev pub SameOutcome : Type 0
SameOutcome =
    (p : Program Stmts) (f : ℕ) (vs : List Held) (m : Memory) (n : ℕ) (contents : List Held)
    → core.run_function (normal p) f vs m n contents ≡ spelled.run_function p f vs m n contents

-- ---- no effect, connective or choice is left in an expression

abbrev pub is_pure_option : Option Value → Bool
is_pure_option None = true
is_pure_option (Some e) = is_pure e

abbrev pub is_core_target : Target → Bool
is_core_target (place type line path es) = are_pure es
is_core_target to = true

abbrev mutual
  pub is_core : Core → Bool
  is_core (set n e) = is_pure e
  is_core (store type line path es) = are_pure es
  is_core (start x e) = is_pure e
  is_core (call to f line es) = is_core_target to && are_pure es
  is_core (branch e a b) = is_pure e && (are_core a && are_core b)
  is_core (repeat l ss) = are_core ss
  is_core (around ss) = are_core ss
  is_core (exit k) = true
  is_core (give e) = is_pure_option e
  is_core (claim c) = true
  is_core (scope ys ss) = are_core ss

  pub are_core : Cores → Bool
  are_core end = true
  are_core (then_ s ss) = is_core s && are_core ss

abbrev pub AllCore : Type 0
AllCore = (xs : List Variable) (ss : Stmts) → are_core (stmts xs 0 0 0 ss).did ≡ true
