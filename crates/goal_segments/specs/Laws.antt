-- What is so of segment runs.
use Rattle.std.specs.Prelude.{◌≡◌, ℕ, Bool, true, false, ◌&&◌, List, Some}
use Rattle.c_runs.specs.TruthStates.{Value}
use Rattle.c_runs.specs.Program.{Stmts, Function, Program}
use Rattle.c_runs.specs.States.{Memory, World}
use Rattle.c_runs.specs.Claims.{Stop, spent, undefined, failed}
use Rattle.c_runs.specs.Calls.{Eval, gives, stops}
use Rattle.c_runs.specs.Entry.{Enters}
use Rattle.c_runs.specs.Run as spelled
use Rattle.c_runs.specs.CheckedTold.{normal}
use Rattle.c_runs.specs.Adding.{add_checks}
use Rattle.c_runs.specs.Tree.{Step, set, store, start, call, branch, repeat, around, exit, give, claim, scope, Steps, end, then_}
use Rattle.c_runs.specs.CheckedRun.{run_function}
use Rattle.plain_runs.specs.Fitting.{FitsProgram}
use Rattle.goal_segments.specs.Segments.{FunctionSeg}

-- ---- functions that are reached

abbrev mutual
  -- only these functions are called
  pub calls_among : (ℕ → Bool) → Step → Bool
  calls_among f (call cs to n l es) = f n
  calls_among f (branch cs e a b) = all_among f a && all_among f b
  calls_among f (repeat l ss) = all_among f ss
  calls_among f (around ss) = all_among f ss
  calls_among f (scope ys ss) = all_among f ss
  calls_among f (set cs n e) = true
  calls_among f (store cs type l path es) = true
  calls_among f (start cs x e) = true
  calls_among f (exit k) = true
  calls_among f (give cs e) = true
  calls_among f (claim c) = true

  pub all_among : (ℕ → Bool) → Steps → Bool
  all_among f end = true
  all_among f (then_ s ss) = calls_among f s && all_among f ss

-- these functions call no others
abbrev pub IsClosed : Program Steps → (ℕ → Bool) → Type 0
IsClosed q reached = (n : ℕ) (f : Function Steps) → reached n ≡ true → q.functions n ≡ Some f → all_among reached f.body ≡ true

-- ---- the modular law

-- no segment run of these functions goes wrong, from a state in which they are entered
abbrev pub NoneFails : Program Steps → (ℕ → Bool) → Type 0
NoneFails q reached =
    (n : ℕ) (f : Function Steps) → reached n ≡ true → q.functions n ≡ Some f → (vs : List Value) (w : World) → Enters q f vs w.memory → (s : Stop)
    → FunctionSeg q n f vs w (stops s) → ⊥

-- it returns, or its turns are spent
abbrev pub GoesWell : Eval → Type 0
GoesWell (gives v w) = Unit {0}
GoesWell (stops (spent w)) = Unit {0}
GoesWell (stops (undefined u line)) = ⊥
GoesWell (stops (failed b line)) = ⊥

-- Where no segment run of a function, and of those that it reaches, goes wrong, no run of it does, however often its loops turn and however deep its calls are.
abbrev pub Modular : Type 0
Modular =
    (q : Program Steps) → FitsProgram q → (reached : ℕ → Bool) → IsClosed q reached → NoneFails q reached
    → (n : ℕ) (f : Function Steps) → reached n ≡ true → q.functions n ≡ Some f → (vs : List Value) (m : Memory) → Enters q f vs m
    → (turns : ℕ) (contents : List Value) → GoesWell (run_function q n vs m turns contents)

-- The same of a program as it is spelled, whose core program with its checks is one over plain integers.
abbrev pub ModularAsSpelled : Type 0
ModularAsSpelled =
    (p : Program Stmts) → FitsProgram (add_checks (normal p)) → (reached : ℕ → Bool) → IsClosed (add_checks (normal p)) reached → NoneFails (add_checks (normal p)) reached
    → (n : ℕ) (f : Function Stmts) → reached n ≡ true → p.functions n ≡ Some f → (vs : List Value) (m : Memory) → Enters p f vs m
    → (turns : ℕ) (contents : List Value) → GoesWell (spelled.run_function p n vs m turns contents)
