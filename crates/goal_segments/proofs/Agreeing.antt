-- How a segment run ends, the run of the core program with checks ends.
use Rattle.std.proofs.Common.{◌≡◌, ℕ, Bool, true, false, List, refl, ap, ◌∙◌, Option, Some, None}
use Rattle.typed_prog.specs.declared.types.CoreType.{CoreType}
use Rattle.typed_prog.specs.declared.operators.Path.{Path}
use Rattle.typed_prog.specs.Tree as t
use Rattle.c_runs.specs.TruthStates.{Value, World as Labelled}
use Rattle.c_runs.specs.Program.{Claim, Behavior, Together, Variable, Function, Facts, Program}
use Rattle.c_runs.specs.States.{World, Memory, Here}
use Rattle.c_runs.specs.Objects.{plain_root}
use Rattle.c_runs.specs.Claims as broken
use Rattle.c_runs.specs.Claims.{Stop, undefined, failed, claimed, all_together, ensured_by}
use Rattle.c_runs.specs.Calls.{Eval}
use Rattle.c_runs.specs.Effects.{wrote_act, granted}
use Rattle.c_runs.specs.CheckedTold.{CoreWorld, Ending, goes_on, then_do, with_eval, in_world, block_end, scope_end, unless, Check}
use Rattle.c_runs.specs.Tree.{Step, Steps}
use Rattle.c_runs.specs.CheckedRun.{asked, put_by, put_to, stored_value, way_values, Deeper, returned, exec, exec_all}
use Rattle.goal_segments.specs.RunSegments as seg
use Rattle.goal_segments.specs.RunSegments.{Asks, Claims, BlockEnds, ScopeEnds, Leaves, place_by, place_at, object_at, totals_in, Runs, AllRun, Behaves, Promises, BodyEnds}

-- ---- checks and claims

pub asks_asked : {test : Check → Bool} {cs : List Check} {o : Option Stop} → Asks test cs o → (x : Ending) → asked cs test x ≡ unless o x
asks_asked seg.all_met x = refl
asks_asked (seg.met h g) x = rw h (asks_asked g x)
asks_asked (seg.unmet h) x = rw h refl

pub claims_claimed : {p : Facts} {w : Labelled} {b : broken.Broken} {cs : List Claim} {o : Option Stop} → Claims p w b cs o → claimed p w b cs ≡ o
claims_claimed seg.all_true = refl
claims_claimed (seg.is_true h g) = rw h (claims_claimed g)
claims_claimed (seg.is_false h) = rw h refl

-- ---- blocks and scopes

block_is : {o u : Ending} → BlockEnds o u → block_end o ≡ u
block_is seg.BlockEnds.at_end = refl
block_is seg.left_here = refl
block_is seg.left_further = refl
block_is seg.BlockEnds.returned = refl
block_is seg.BlockEnds.stopped_in = refl

scope_is : {m : Memory} {ys : List ℕ} {o u : Ending} → ScopeEnds m ys o u → scope_end m ys o ≡ u
scope_is seg.ScopeEnds.at_end = refl
scope_is seg.left_by_exit = refl
scope_is seg.ScopeEnds.returned = refl
scope_is seg.ScopeEnds.stopped_in = refl

leaves_stay : {o : Ending} → Leaves o → (go : CoreWorld → Ending) → then_do o go ≡ o
leaves_stay seg.by_exit go = refl
leaves_stay seg.Leaves.by_return go = refl
leaves_stay seg.Leaves.by_stop go = refl

-- ---- writes

put_is : (r : Option ℕ) (p : Facts) (here : Here) (l : ℕ) (type : CoreType) (path : Path) (w : World) (vs : List Value) (v : Value)
    → put_by r p here l type path w vs v ≡ granted (place_by r p here type path w vs v).may_change l (place_by r p here type path w vs v).changed
put_is (Some x) p here l type path w vs v = refl
put_is None p here l type path w vs v = refl

module _ (q : Program Steps) (d : Deeper) (xs : List Variable) (here : Here) where
  written : (type : CoreType) (l : ℕ) (path : Path) (c : CoreWorld) (es : t.Values) (b : Bool) → (object_at q.facts xs here type path c es).may_change ≡ b
      → put_to q d xs here type l path (way_values (totals_in q.facts xs c es)) (stored_value (totals_in q.facts xs c es)) c
      ≡ with_eval (wrote_act (stored_value (totals_in q.facts xs c es)) (granted b l (object_at q.facts xs here type path c es).changed))
      (λ z w. goes_on (in_world c w))
  written type l path c es b h =
      let vs = totals_in q.facts xs c es in
      ap (λ r. with_eval (wrote_act (stored_value vs) r) (λ z w. goes_on (in_world c w)))
      (put_is (plain_root xs path.root) q.facts here l type path c.world (way_values vs) (stored_value vs)
      ∙ ap (λ b. granted b l (object_at q.facts xs here type path c es).changed) h)

-- ---- statements

mutual
  pub run_is : (q : Program Steps) (d : Deeper) {xs : List Variable} {here : Here} {s : Step} {c : CoreWorld} {o : Ending}
      → Runs q xs here s c o → exec q d xs here s c ≡ o
  run_is q d (seg.sets h) = asks_asked h _
  run_is q d (seg.set_stops h) = asks_asked h _
  run_is q d {xs} {here} (seg.stores {type = type} {l = l} {path = path} {es = es} {c = c} h g) = asks_asked h _ ∙ written q d xs here type l path c es true g
  run_is q d {xs} {here} (seg.store_refused {type = type} {l = l} {path = path} {es = es} {c = c} h g) =
      asks_asked h _ ∙ written q d xs here type l path c es false g
  run_is q d (seg.store_stops h) = asks_asked h _
  run_is q d (seg.starts h) = asks_asked h _
  run_is q d (seg.start_stops h) = asks_asked h _
  run_is q d (seg.first_arm h g r) = asks_asked h _ ∙ rw g (all_is q d r)
  run_is q d (seg.other_arm h g r) = asks_asked h _ ∙ rw g (all_is q d r)
  run_is q d (seg.test_stops h) = asks_asked h _
  run_is q d (seg.blocks r e) = ap block_end (all_is q d r) ∙ block_is e
  run_is q d seg.leaves = refl
  run_is q d seg.gives_nothing = refl
  run_is q d (seg.gives_value h) = asks_asked h _
  run_is q d (seg.give_stops h) = asks_asked h _
  run_is q d (seg.asserts h) = rw h refl
  run_is q d (seg.assert_fails h) = rw h refl
  run_is q d (seg.scopes {ys = ys} {c = c} r e) = ap (scope_end c.world.memory ys) (all_is q d r) ∙ scope_is e

  pub all_is : (q : Program Steps) (d : Deeper) {xs : List Variable} {here : Here} {ss : Steps} {c : CoreWorld} {o : Ending}
      → AllRun q xs here ss c o → exec_all q d xs here ss c ≡ o
  all_is q d seg.none = refl
  all_is q d {xs} {here} (seg.goes {ss = ss} r rs) = ap (λ o. then_do o (exec_all q d xs here ss)) (run_is q d r) ∙ all_is q d rs
  all_is q d {xs} {here} (seg.stays {ss = ss} r e) = ap (λ o. then_do o (exec_all q d xs here ss)) (run_is q d r) ∙ leaves_stay e (exec_all q d xs here ss)

-- ---- functions

pub behaves_is : {p : Facts} {w : Labelled} {bs : List Behavior} {ts : List Together} {o : Option Stop} → Behaves p w bs ts o → all_together p w bs ts ≡ o
behaves_is seg.as_said = refl
behaves_is (seg.one_is_there h g r) = rw (h, g) (behaves_is r)
behaves_is (seg.none_is_there h g) = rw (h, g) refl
behaves_is (seg.no_two_are_there h g r) = rw (h, g) (behaves_is r)
behaves_is (seg.two_are_there h g) = rw (h, g) refl

pub promises_is : {p : Facts} {v w : Labelled} {bs : List Behavior} {o : Option Stop} → Promises p v w bs o → ensured_by p v w bs ≡ o
promises_is seg.all_kept = refl
promises_is (seg.not_assumed h r) = rw h (promises_is r)
promises_is (seg.kept h g r) = rw (h, claims_claimed g) (promises_is r)
promises_is (seg.not_kept h g) = rw (h, claims_claimed g) refl

pub body_is : {f : Function Steps} {o : Ending} {e : Eval} → BodyEnds f o e → returned f o ≡ e
body_is seg.BodyEnds.by_return = refl
body_is (seg.at_brace h) = rw h refl
body_is (seg.without_result h) = rw h refl
body_is (seg.left_at_brace h) = rw h refl
body_is (seg.left_without_result h) = rw h refl
body_is seg.BodyEnds.by_stop = refl
