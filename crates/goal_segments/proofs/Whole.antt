-- Segment runs of functions are runs.
use Rattle.std.proofs.Common.{◌≡◌, ℕ, zero, suc, Bool, true, false, List, [], refl, sym, ap, ◌∙◌, ℤ, Option, Some, None}
use Rattle.std.specs.Prelude.{if◌then◌else◌, option_map}
use Rattle.c_runs.specs.TruthStates.{Value}
use Rattle.c_runs.specs.Program.{Stmts, Function, Facts, Program}
use Rattle.c_runs.specs.States.{World, Memory, Here}
use Rattle.c_runs.specs.Claims.{Stop, spent, at_entry, required, decreased, measure_of, here_in, in_state, at_return, parts_of}
use Rattle.c_runs.specs.Scopes.{arrived}
use Rattle.c_runs.specs.Calls.{Eval, gives, unless, keeps_promises, back_in, entered_by, Runner, found}
use Rattle.c_runs.specs.Run as spelled
use Rattle.c_runs.specs.Run.{outside, at_first}
use Rattle.c_runs.specs.CheckedTold.{Cores, Ending, stopped, begun, normal_function, normal, are_core}
use Rattle.c_runs.specs.Tree.{Steps}
use Rattle.c_runs.specs.Adding.{function_of, add_checks}
use Rattle.c_runs.specs.CheckedRun.{returned, body, levels, run_function}
use Rattle.c_runs.proofs.CheckedTold.{same_outcome, all_core}
use Rattle.c_runs.specs.CheckedLaws.{IsCore}
use Rattle.c_runs.proofs.Running.{checks_keep}
use Rattle.goal_segments.specs.RunLaws.{goal_function, SegmentRunsAreRuns}
use Rattle.goal_segments.specs.RunSegments as seg
use Rattle.goal_segments.specs.RunSegments.{AllRun, Behaves, Promises, BodyEnds, behind_call, FunctionRuns}
use Rattle.goal_segments.proofs.Agreeing.{all_is, behaves_is, promises_is, body_is}

-- ---- the end of a call

promised : (p : Facts) (here : Here) (f : Function Steps) (w : World) (v : Value) (u : World) (o : Option Stop)
    → Promises p (in_state p here.entry) (at_return p here (behind_call w u).memory v) (parts_of f.contract) o
    → keeps_promises p here f.contract (back_in w (gives v u)) ≡ unless o (gives v (behind_call w u))
promised p here f w v u o h = ap (λ r. unless r (gives v (behind_call w u))) (promises_is h)

abbrev inside_of : Program Steps → (number : ℕ) → Function Steps → List Value → World → Here
inside_of q k f vs w = here_in q.facts k vs w.memory f.contract []

-- how the body runs
abbrev runner : Program Steps → ℕ → Runner Steps
runner q n f here w = returned f (levels q n (body f) here (begun w))

body_runs : (q : Program Steps) (n : ℕ) (f : Function Steps) (here : Here) (w : World) {o : Ending} {e : Eval}
    → AllRun q f.variables here f.body (begun w) o → BodyEnds f o e → runner q n f here w ≡ e
unfolding levels
body_runs q zero f here w r e = ap (returned f) (all_is q (λ t here c. stopped (spent c.world)) r) ∙ body_is e
body_runs q (suc n) f here w r e = ap (returned f) (all_is q (levels q n) r) ∙ body_is e

pub entered_is : (q : Program Steps) (n k : ℕ) (f : Function Steps) (vs : List Value) (w : World) {e : Eval} → FunctionRuns q k f vs w e
    → entered_by q.facts (runner q n) f (inside_of q k f vs w) vs w ≡ e
entered_is q n k f vs w (seg.not_entered h) = rw (behaves_is h) refl
entered_is q n k f vs w (seg.goes_wrong h r e) =
    let here = inside_of q k f vs w in
    rw (behaves_is h) (ap (λ o. keeps_promises q.facts here f.contract (back_in w o)) (body_runs q n f here (arrived f.variables vs w) r e))
entered_is q n k f vs w (seg.breaks_promise {v = v} {u = u} h r e g) =
    let here = inside_of q k f vs w in
    rw (behaves_is h) (ap (λ o. keeps_promises q.facts here f.contract (back_in w o)) (body_runs q n f here (arrived f.variables vs w) r e)
    ∙ promised q.facts here f w v u _ g)
entered_is q n k f vs w (seg.returns_well {v = v} {u = u} h r e g) =
    let here = inside_of q k f vs w in
    rw (behaves_is h) (ap (λ o. keeps_promises q.facts here f.contract (back_in w o)) (body_runs q n f here (arrived f.variables vs w) r e)
    ∙ promised q.facts here f w v u _ g)

-- ---- a call from outside

abbrev no_stop : Option Stop
no_stop = None

no_measure : (p : Facts) (l k f : ℕ) (m : Memory) (z : Option ℤ) → decreased p l (outside k p m) f z ≡ None
no_measure p l k f m z = either (p.in_cluster k f)
  where
    either : (b : Bool) → (if b then no_stop else no_stop) ≡ no_stop
    either true = refl
    either false = refl

-- the function is there, and what it requires holds
called_is : (q : Program Steps) (n k : ℕ) (f : Function Steps) (vs : List Value) (m : Memory) (contents : List Value)
    → required q.facts 0 (at_entry q.facts vs m) f.contract ≡ None
    → found q.facts (runner q (suc n)) (outside k q.facts m) k 0 (Some f) vs (at_first (suc n) contents m)
    ≡ entered_by q.facts (runner q (suc n)) f (inside_of q k f vs (at_first n contents m)) vs (at_first n contents m)
called_is q n k f vs m contents h = rw (h, no_measure q.facts 0 k k m (measure_of q.facts (at_entry q.facts vs m) f.contract.decreases)) refl

-- with checks
function_is : (q : Program Steps) (n k : ℕ) (f : Function Steps) → q.functions k ≡ Some f → (vs : List Value) (m : Memory) (contents : List Value)
    → required q.facts 0 (at_entry q.facts vs m) f.contract ≡ None → {e : Eval} → FunctionRuns q k f vs (at_first n contents m) e
    → run_function q k vs m (suc n) contents ≡ e
function_is q n k f found_ vs m contents h r =
    ap (λ o. found q.facts (runner q (suc n)) (outside k q.facts m) k 0 o vs (at_first (suc n) contents m)) found_
    ∙ called_is q n k f vs m contents h ∙ entered_is q (suc n) k f vs (at_first n contents m) r

-- ---- as spelled

abbrev is_core_if : Option (Function Cores) → Bool
is_core_if None = true
is_core_if (Some f) = are_core f.body

all_are_core : (o : Option (Function Stmts)) → is_core_if (option_map normal_function o) ≡ true
all_are_core None = refl
all_are_core (Some f) = all_core f.variables f.body

normal_is_core : (p : Program Stmts) → IsCore (normal p)
normal_is_core p n g h = sym (ap is_core_if h) ∙ all_are_core (p.functions n)

pub spelled_is : (p : Program Stmts) (k : ℕ) (vs : List Value) (m : Memory) (n : ℕ) (contents : List Value)
    → spelled.run_function p k vs m n contents ≡ run_function (add_checks (normal p)) k vs m n contents
spelled_is p k vs m n contents = sym (checks_keep (normal p) (normal_is_core p) k vs m n contents ∙ same_outcome p k vs m n contents)

pub segment_runs_are_runs : SegmentRunsAreRuns
segment_runs_are_runs p k f found_ vs m h n contents e r =
    spelled_is p k vs m (suc n) contents
    ∙ function_is (add_checks (normal p)) n k (goal_function f) (ap (λ o. option_map function_of (option_map normal_function o)) found_) vs m contents h r
