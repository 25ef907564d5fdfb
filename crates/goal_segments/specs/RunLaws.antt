-- What is so of segment runs.
use Rattle.std.specs.Prelude.{◌≡◌, ℕ, suc, Bool, true, false, ◌&&◌, List, Some, None}
use Rattle.c_runs.specs.TruthStates.{Value}
use Rattle.c_runs.specs.Program.{Stmts, Function, Program}
use Rattle.c_runs.specs.States.{Memory}
use Rattle.c_runs.specs.Claims.{at_entry, required}
use Rattle.c_runs.specs.Calls.{Eval}
use Rattle.c_runs.specs.Run.{at_first, run_function}
use Rattle.c_runs.specs.CheckedTold.{normal_function, normal}
use Rattle.c_runs.specs.Tree.{Step, set, store, start, call, branch, repeat, around, exit, give, claim, scope, Steps, end, then_}
use Rattle.c_runs.specs.Adding.{function_of, add_checks}
use Rattle.goal_segments.specs.RunSegments.{FunctionRuns}

-- ---- without loops and calls

abbrev mutual
  pub is_straight : Step → Bool
  is_straight (call cs to f line es) = false
  is_straight (repeat l ss) = false
  is_straight (branch cs e a b) = are_straight a && are_straight b
  is_straight (around ss) = are_straight ss
  is_straight (scope ys ss) = are_straight ss
  is_straight (set cs n e) = true
  is_straight (store cs type line path es) = true
  is_straight (start cs x e) = true
  is_straight (exit k) = true
  is_straight (give cs e) = true
  is_straight (claim c) = true

  pub are_straight : Steps → Bool
  are_straight end = true
  are_straight (then_ s ss) = is_straight s && are_straight ss

-- the core function with its checks
abbrev pub goal_function : Function Stmts → Function Steps
goal_function f = function_of (normal_function f)

-- Where a segment run of a function without loops and calls ends in some way, so does the run of the function as it is spelled, with the same contents:
-- where a check isn't met, the run is undefined, of the check's kind and at its line; where an annotation is false, it fails, by its kind and line. So the
-- machine lets nothing pass at which a goal can fail.
abbrev pub SegmentRunsAreRuns : Type 0
SegmentRunsAreRuns =
    (p : Program Stmts) (k : ℕ) (f : Function Stmts) → p.functions k ≡ Some f
    → (vs : List Value) (m : Memory) → required p.facts 0 (at_entry p.facts vs m) f.contract ≡ None
    → (n : ℕ) (contents : List Value) (e : Eval) → FunctionRuns (add_checks (normal p)) k (goal_function f) vs (at_first n contents m) e
    → run_function p k vs m (suc n) contents ≡ e

-- And each run is a segment run.
abbrev pub RunsAreSegmentRuns : Type 0
RunsAreSegmentRuns =
    (p : Program Stmts) (k : ℕ) (f : Function Stmts) → p.functions k ≡ Some f → are_straight (goal_function f).body ≡ true
    → (vs : List Value) (m : Memory) → required p.facts 0 (at_entry p.facts vs m) f.contract ≡ None
    → (n : ℕ) (contents : List Value) → FunctionRuns (add_checks (normal p)) k (goal_function f) vs (at_first n contents m) (run_function p k vs m (suc n) contents)
