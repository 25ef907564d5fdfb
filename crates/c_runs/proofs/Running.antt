-- A core program with checks runs as the program without.
use Rattle.std.proofs.Common.{◌≡◌, ℕ, zero, suc, Bool, true, ◌&&◌, List, refl, sym, ap, ◌∙◌, ℤ, Option, Some, None}
use Rattle.std.specs.Prelude.{if◌then◌else◌, option_map}
use Rattle.std.proofs.lemmas.Bool.{and_parts}
use Rattle.typed_prog.specs.Tree as t
use Rattle.c_runs.specs.Told.{Value}
use Rattle.c_runs.specs.Program.{Loop, Variable, Function, Facts, Program}
use Rattle.c_runs.specs.States.{World, Here, is_nonzero}
use Rattle.c_runs.specs.Operators.{is, wrong}
use Rattle.c_runs.specs.Values.{are}
use Rattle.c_runs.specs.Claims.{spent, at_entry, required, entered_well, measure_of, decreased, here_in, in_body, at_head, in_loop}
use Rattle.c_runs.specs.Scopes.{arrived, entered}
use Rattle.c_runs.specs.Calls as call_
use Rattle.c_runs.specs.Calls.{Eval, gives, stops, Act, nought, turn_by, back_in, keeps_promises, Runner, found, called_by}
use Rattle.c_runs.specs.Effects.{assign_act, initial_act}
use Rattle.c_runs.specs.Run as spelled
use Rattle.c_runs.specs.Core as tree
use Rattle.c_runs.specs.Core.{Target, Core, Cores}
use Rattle.c_runs.specs.CoreRun as core
use Rattle.c_runs.specs.CoreRun.{CoreWorld, Ending, goes_on, exits, returns, stopped, then_do, with_val, with_eval, in_world, with_temp, block_end, scope_end, unless, one_turn, begun}
use Rattle.c_runs.specs.NormalTold.{checks_of, all_checks, is_pure, are_pure, total, totals, is_met, settle}
use Rattle.c_runs.proofs.NormalTold.{settle_through, checked}
use Rattle.c_runs.specs.NormalLaws.{is_core_target, is_core, are_core}
use Rattle.c_runs.specs.Tree.{Steps}
use Rattle.c_runs.specs.Adding.{goal_of, step_of, steps_of, function_of, add_checks}
use Rattle.c_runs.specs.CheckedRun as run
use Rattle.c_runs.specs.CheckedRun.{goes_wrong, is_met_in, place_test, stored_value, way_values, Deeper, calls, result_to, pass, exec, exec_all, task_by, levels}
use Rattle.c_runs.specs.CheckedLaws.{IsCore, ChecksKeep}
use Rattle.c_runs.proofs.Writing.{write_settle, place_settle, operands_settle, assigned_is}

-- ---- what follows, for each way to get there

if_same : (b : Bool) {x x' y y' : Ending} → x ≡ x' → y ≡ y' → (if b then x else y) ≡ (if b then x' else y')
if_same b p q = λ i. if b then p i else q i

then_alike : (e : Ending) (k k' : CoreWorld → Ending) → ((c : CoreWorld) → k c ≡ k' c) → then_do e k ≡ then_do e k'
then_alike (goes_on c) k k' h = h c
then_alike (exits n c) k k' h = refl
then_alike (returns v c) k k' h = refl
then_alike (stopped s) k k' h = refl

then_same : {e e' : Ending} (k k' : CoreWorld → Ending) → e ≡ e' → ((c : CoreWorld) → k c ≡ k' c) → then_do e k ≡ then_do e' k'
then_same {e} {e'} k k' p h = ap (λ e. then_do e k) p ∙ then_alike e' k k' h

eval_alike : (e : Eval) (k k' : Value → World → Ending) → ((v : Value) (w : World) → k v w ≡ k' v w) → with_eval e k ≡ with_eval e k'
eval_alike (gives v w) k k' h = h v w
eval_alike (stops s) k k' h = refl

eval_same : {e e' : Eval} (k k' : Value → World → Ending) → e ≡ e' → ((v : Value) (w : World) → k v w ≡ k' v w) → with_eval e k ≡ with_eval e' k'
eval_same {e} {e'} k k' p h = ap (λ e. with_eval e k) p ∙ eval_alike e' k k' h

one_turn_same : (n : ℕ) (c : CoreWorld) (k k' : CoreWorld → Ending) → ((c : CoreWorld) → k c ≡ k' c) → one_turn n c k ≡ one_turn n c k'
one_turn_same zero c k k' h = refl
one_turn_same (suc n) c k k' h = h _

turn_same : (n : ℕ) (w : World) (k k' : Act) → ((w : World) → k w ≡ k' w) → turn_by n w k ≡ turn_by n w k'
turn_same zero w k k' h = refl
turn_same (suc n) w k k' h = h _

-- ---- calls

called_same : (p : Facts) (go : Runner Cores) (go' : Runner Steps) (f : Function Cores) → ((here : Here) (w : World) → go' (function_of f) here w ≡ go f here w)
    → (here : Here) (n l : ℕ) (vs : List Value) (w : World) → called_by p go' here n l (function_of f) vs w ≡ called_by p go here n l f vs w
called_same p go go' f e here n l vs w =
    let inner = here_in p n vs w.memory f.contract here.granted in
    ap (λ r. call_.unless (required p l (at_entry p vs w.memory) f.contract)
    (call_.unless (decreased p l here n (measure_of p (at_entry p vs w.memory) f.contract.decreases)) r))
    (turn_same w.turns w (call_.entered_by p go' (function_of f) inner vs) (call_.entered_by p go f inner vs)
    (λ v. ap (λ r. call_.unless (entered_well p (at_entry p vs v.memory) f.contract) (keeps_promises p inner f.contract (back_in v r)))
    (e inner (arrived f.variables vs v))))

returned_same : (f : Function Cores) (e : Ending) → run.returned (function_of f) e ≡ core.returned f e
returned_same f (goes_on c) = refl
returned_same f (exits k c) = refl
returned_same f (returns v c) = refl
returned_same f (stopped s) = refl

-- what is done a level deeper is the same
record Deep (d : core.Deeper) (d' : Deeper) : Type 0 where
  bodies : (f : Function Cores) → are_core f.body ≡ true → (here : Here) (c : CoreWorld) → d' (run.body (function_of f)) here c ≡ d (core.body f) here c
  loops : (xs : List Variable) (l : Loop) (last : Option ℤ) (ss : Cores) → are_core ss ≡ true → (here : Here) (c : CoreWorld)
      → d' (run.again xs l last (steps_of xs ss)) here c ≡ d (core.again xs l last ss) here c

module _ (p : Program Cores) (all : IsCore p) (d : core.Deeper) (d' : Deeper) (deep : Deep d d') where
  abbrev q : Program Steps
  q = add_checks p

  abbrev go : Runner Cores
  go f here w = core.returned f (d (core.body f) here (begun w))

  abbrev go' : Runner Steps
  go' f here w = run.returned f (d' (run.body f) here (begun w))

  found_same : (here : Here) (n l : ℕ) (vs : List Value) (w : World) (o : Option (Function Cores)) → ((f : Function Cores) → o ≡ Some f → are_core f.body ≡ true)
      → found p.facts go' here n l (option_map function_of o) vs w ≡ found p.facts go here n l o vs w
  found_same here n l vs w None h = refl
  found_same here n l vs w (Some f) h =
      called_same p.facts go go' f
      (λ here w. returned_same f (d' (run.body (function_of f)) here (begun w)) ∙ ap (core.returned f) (deep.bodies f (h f refl) here (begun w))) here n l vs w

  calls_same : (here : Here) (n l : ℕ) (vs : List Value) (w : World) → calls q d' here n l vs w ≡ core.calls p d here n l (are vs) w
  calls_same here n l vs w = found_same here n l vs w (p.functions n) (all n)

  module _ (xs : List Variable) where
    -- an expression, and what follows it
    value_settle : (e : t.Value) → is_pure e ≡ true → (c : CoreWorld) (go : Value → Ending)
        → with_val (core.eval p d xs c e) go ≡ settle (checks_of xs e) (is_met p.facts xs c.temps c.world e) goes_wrong (go (total p.facts xs c.temps c.world e))
    value_settle e h c go =
        ap (λ v. with_val v go) (checked p.facts xs e h c.temps nought c.world)
        ∙ settle_through (λ v. with_val v go) (checks_of xs e) (is_met p.facts xs c.temps c.world e) wrong (is (total p.facts xs c.temps c.world e))

    result_same : (here : Here) (to : Target) → is_core_target to ≡ true → (v : Value) (c : CoreWorld)
        → result_to q d' xs here (goal_of xs to) v c ≡ core.result_to p d xs here to v c
    result_same here tree.nowhere h v c = refl
    result_same here (tree.temporary n) h v c = refl
    result_same here (tree.variable x) h v c = refl
    result_same here (tree.place type l path es) h v c =
        let vs = totals p.facts xs c.temps c.world es in
        sym (operands_settle p.facts xs es h c.temps c.world (core.to_place p d xs here type l path v c) (λ u k. refl)
        ∙ ap (settle (all_checks xs es) (is_met_in p.facts xs c.temps c.world es) goes_wrong)
        (write_settle p.facts xs here l type path c.world vs v (λ z w. goes_on (in_world c w)) (place_test p.facts xs c.temps c.world type path vs es) (λ u k n. refl))
        ∙ place_settle p.facts xs c.temps c.world type path vs es (run.put_to q d' xs here type l path vs v c))

    pass_same : (here : Here) (l : Loop) (last : Option ℤ) (body body' : CoreWorld → Ending) (later later' : Option ℤ → CoreWorld → Ending)
        → ((c : CoreWorld) → body' c ≡ body c) → ((z : Option ℤ) (c : CoreWorld) → later' z c ≡ later z c)
        → (c : CoreWorld) → pass q d' xs here l last body' later' c ≡ core.pass p d xs here l last body later c
    pass_same here l last body body' later later' h g c =
        let z = measure_of p.facts (in_body p.facts here c.world) l.variant in
        ap (unless (at_head p.facts (in_body p.facts here c.world) l last))
        (one_turn_same c.world.turns c (λ e. then_do (body' e) (later' z)) (λ e. then_do (body e) (later z))
        (λ e. then_same (later' z) (later z) (h e) (g z)))

    mutual
      step_same : (s : Core) → is_core s ≡ true → (here : Here) (c : CoreWorld) → exec q d' xs here (step_of xs s) c ≡ core.exec p d xs here s c
      step_same (tree.set n e) h here c = sym (value_settle e h c (λ v. goes_on (with_temp n v c)))
      step_same (tree.store type l path es) h here c =
          let held = totals p.facts xs c.temps c.world es in
          let vs = way_values held in
          sym (operands_settle p.facts xs es h c.temps c.world
          (λ r. with_eval (assign_act p.facts xs here l type path r c.world) (λ v w. goes_on (in_world c w))) (λ u k. refl)
          ∙ ap (settle (all_checks xs es) (is_met_in p.facts xs c.temps c.world es) goes_wrong)
          (ap (λ r. with_eval r (λ v w. goes_on (in_world c w))) (assigned_is p.facts xs here l type path held c.world)
          ∙ write_settle p.facts xs here l type path c.world vs (stored_value held) (λ z w. goes_on (in_world c w))
          (place_test p.facts xs c.temps c.world type path vs es) (λ u k n. refl))
          ∙ place_settle p.facts xs c.temps c.world type path vs es (run.put_to q d' xs here type l path vs (stored_value held) c))
      step_same (tree.start x e) h here c = sym (value_settle e h c (λ v. goes_on (in_world c (initial_act xs x v c.world))))
      step_same (tree.call to f l es) h here c =
          let parts = and_parts (is_core_target to) (are_pure es) h in
          let vs = totals p.facts xs c.temps c.world es in
          ap (settle (all_checks xs es) (is_met_in p.facts xs c.temps c.world es) goes_wrong)
          (eval_same (λ v w. result_to q d' xs here (goal_of xs to) v (in_world c w)) (λ v w. core.result_to p d xs here to v (in_world c w))
          (calls_same here f l vs c.world) (λ v w. result_same here to parts.0 v (in_world c w)))
          ∙ sym (operands_settle p.facts xs es parts.1 c.temps c.world
          (λ r. with_eval (core.calls p d here f l r c.world) (λ v w. core.result_to p d xs here to v (in_world c w))) (λ u k. refl))
      step_same (tree.branch e a b) h here c =
          let parts = and_parts (is_pure e) (are_core a && are_core b) h in
          let ways = and_parts (are_core a) (are_core b) parts.1 in
          ap (settle (checks_of xs e) (is_met p.facts xs c.temps c.world e) goes_wrong)
          (if_same (is_nonzero (total p.facts xs c.temps c.world e)) (steps_same a ways.0 here c) (steps_same b ways.1 here c))
          ∙ sym (value_settle e parts.0 c (λ v. if is_nonzero v then core.exec_all p d xs here a c else core.exec_all p d xs here b c))
      step_same (tree.repeat l ss) h here c =
          let inside = in_loop p.facts here l c.world in
          pass_same inside l None (core.exec_all p d xs inside ss) (exec_all q d' xs inside (steps_of xs ss))
          (λ z. d (core.again xs l z ss) inside) (λ z. d' (run.again xs l z (steps_of xs ss)) inside)
          (λ c. steps_same ss h inside c) (λ z c. deep.loops xs l z ss h inside c) c
      step_same (tree.around ss) h here c = ap block_end (steps_same ss h here c)
      step_same (tree.exit k) h here c = refl
      step_same (tree.give None) h here c = refl
      step_same (tree.give (Some e)) h here c = sym (value_settle e h c (λ v. returns v c))
      step_same (tree.claim r) h here c = refl
      step_same (tree.scope ys ss) h here c = ap (scope_end c.world.memory ys) (steps_same ss h here (in_world c (entered p.facts xs ys c.world)))

      steps_same : (ss : Cores) → are_core ss ≡ true → (here : Here) (c : CoreWorld) → exec_all q d' xs here (steps_of xs ss) c ≡ core.exec_all p d xs here ss c
      steps_same tree.end h here c = refl
      steps_same (tree.then_ s ss) h here c =
          let parts = and_parts (is_core s) (are_core ss) h in
          then_same (exec_all q d' xs here (steps_of xs ss)) (core.exec_all p d xs here ss) (step_same s parts.0 here c) (λ c. steps_same ss parts.1 here c)

  task_same : Deep (core.task_by p d) (task_by q d')
  task_same = record {
    bodies = λ f h here c. steps_same f.variables f.body h here c;
    loops = λ xs l last ss h here c.
        pass_same xs here l last (core.exec_all p d xs here ss) (exec_all q d' xs here (steps_of xs ss))
        (λ z. d (core.again xs l z ss) here) (λ z. d' (run.again xs l z (steps_of xs ss)) here)
        (λ c. steps_same xs ss h here c) (λ z c. deep.loops xs l z ss h here c) c;
  }

deep_levels : (p : Program Cores) → IsCore p → (n : ℕ) → Deep (core.levels p n) (levels (add_checks p) n)
unfolding core.levels levels
deep_levels p all zero =
    task_same p all (λ t here c. stopped (spent c.world)) (λ t here c. stopped (spent c.world)) (record { bodies = λ f h here c. refl; loops = λ xs l last ss h here c. refl })
deep_levels p all (suc n) = task_same p all (core.levels p n) (levels (add_checks p) n) (deep_levels p all n)

pub checks_keep : ChecksKeep
checks_keep p all f vs m n contents =
    calls_same p all (core.levels p n) (levels (add_checks p) n) (deep_levels p all n) (spelled.outside f p.facts m) f 0 vs (spelled.at_first n contents m)
