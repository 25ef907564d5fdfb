-- Core statements run beside the spelled ones.
use Rattle.std.proofs.Common.{List, ◌≡◌, ℕ, ℤ, true, false, if◌then◌else◌, Option, Some, None, refl, sym}
use Rattle.typed_prog.specs.Tree as t
use Rattle.c_runs.specs.Program.{Loop, Stmt, evaluate, block, initial, choose, loop, switch, case_of, default, break, continue, return_of, assert, Stmts, stop, more, Variable, Function, Program}
use Rattle.c_runs.specs.States.{World, Here, is_nonzero}
use Rattle.c_runs.specs.Operators.{is, wrong}
use Rattle.c_runs.specs.Values.{Temps, Vals}
use Rattle.c_runs.specs.Claims as claims
use Rattle.c_runs.specs.Claims.{Stop, undefined, unless_true, holds, in_body, measure_of, at_head, in_loop}
use Rattle.c_runs.specs.Scopes.{entered}
use Rattle.c_runs.specs.Calls.{Eval, nought}
use Rattle.c_runs.specs.Run.{no_temps, run, label_of}
use Rattle.c_runs.specs.Run as sp
use Rattle.c_runs.specs.Core.{repeat, around, give, claim, scope, Cores, then_, join, one}
use Rattle.c_runs.specs.CoreRun.{CoreWorld, Ending, goes_on, exits, returns, stopped, then_do, block_end, begun}
use Rattle.c_runs.specs.CoreRun as core
use Rattle.c_runs.specs.Plans.{Made, planned, condition, next_of}
use Rattle.c_runs.specs.Normal.{is_settled, save_unless, loop_test, loop_step, up, loop_body, dispatch, stmt, stmts, groups, normal_function, normal}
use Rattle.c_runs.proofs.Relations.{pair, keeps_all, Gives, early, there}
use Rattle.c_runs.proofs.Plans.{then_then, join_ex, one_ex}
use Rattle.c_runs.proofs.Forks.{Ways, Forked, fork_early, forked, fork_ok}
use Rattle.c_runs.proofs.All.{plans_ok}
use Rattle.c_runs.proofs.Unaffected.{zero_stays}
use Rattle.c_runs.proofs.Endings.{Like, on, out, once_more, back, halt, unless_like, scope_like, block_like, blocks_like, Round, round_like, unless_round, turn_round, test_round, body_round, runs_like, run_round}
use Rattle.c_runs.proofs.Performed.{settled_sure, unless_sure, planned_gives, effect_runs, started_like}
use Rattle.c_runs.proofs.Switches.{xe, StmtLike, AllLike, all_stmts, switch_body}

-- the statements of a core loop
abbrev pub body_of : List Variable → Option t.Value → Stmt → (step behind : Option t.Value) → ℕ → Cores
body_of xs before s step behind n =
    let x = loop_test xs before n in
    let y = stmt xs 1 0 x.next_temp s in
    let z = loop_step xs step y.next_temp in
    loop_body x y.did z (loop_test xs behind z.next_temp)

-- each task deeper runs beside the spelled one
pub record Deep (dp : sp.Deeper) (dc : core.Deeper) : Type 0 where
  pub bodies : (f : Function Stmts) (here : Here) (w : World) → Like 0 0 (dc (core.body (normal_function f)) here (begun w)) (dp (sp.body f) here w)
  pub loops : (xs : List Variable) (l : Loop) (last : Option ℤ) (before : Option t.Value) (s : Stmt) (step behind : Option t.Value) (n : ℕ) (here : Here) (x : CoreWorld)
      → Round (dc (core.again xs l last (body_of xs before s step behind n)) here x) (dp (sp.again xs l last before s step behind) here x.world)

assoc : (e : Ending) (f g : CoreWorld → Ending) → then_do (then_do e f) g ≡ then_do e (λ x. then_do (f x) g)
assoc e f g = sym (then_then e (λ x. then_do (f x) g) f g (λ x. refl))

module _ (p : Program Stmts) (dp : sp.Deeper) (dc : core.Deeper) (same_calls : (here : Here) (f l : ℕ) (vs : Vals) (w : World) → core.calls (normal p) dc here f l vs w ≡ sp.calls p dp here f l vs w) (deep : Deep dp dc) where
  module _ (xs : List Variable) where
    abbrev xt : Here → Cores → CoreWorld → Ending
    xt = xe p dp dc xs

    abbrev Same : Stmt → Type 0
    Same = StmtLike p dp dc xs

    -- ---- returns

    give_like : (here : Here) {b c : ℕ} {w : World} {tm : Temps} {n : ℕ} (m : Made) {e : Ending} {r : Eval} → Gives p.facts xs false w tm n m.value m.next_temp e r
        → Like b c (then_do e (xt here (one (give (Some m.value))))) (sp.ran r sp.returns)
    give_like here m (early s) = halt s
    give_like here m (there w1 tm1 (is v) mv h) = rw (h tm1 (keeps_all m.next_temp tm1)) (back v (pair w1 tm1))
    give_like here m (there w1 tm1 (wrong u k) mv h) = rw (h tm1 (keeps_all m.next_temp tm1)) (halt (undefined u k))

    return_like : (e : Option t.Value) → Same (return_of e)
    return_like None here b c n w tm = back nought (pair w tm)
    return_like (Some e) here b c n w tm =
        let m = (planned xs e).made n in
        rw (join_ex (normal p) dc xs here m.before (one (give (Some m.value))) (pair w tm)) (give_like here m (planned_gives (normal p) dc xs here (sp.calls p dp here) (same_calls here) e n w tm))

    -- ---- loops

    tested_round : (here : Here) (o : Option t.Value) (n : ℕ) (x : CoreWorld) (f : CoreWorld → Ending) (g : World → sp.Outcome) → ((x : CoreWorld) → Round (f x) (g x.world))
        → Round (then_do (xt here (loop_test xs o n).tests x) f) (sp.tested p dp xs here o x.world g)
    tested_round here None n x f g h = h x
    tested_round here (Some e) n x f g h =
        test_round f g ((plans_ok (normal p) dc xs here (sp.calls p dp here) (same_calls here) e).all_ok.test_ok true 0 n x.world x.temps (zero_stays p.facts xs n x.temps)) h

    stepped_round : (here : Here) (o : Option t.Value) (n : ℕ) (x : CoreWorld) (f : CoreWorld → Ending) (g : World → sp.Outcome) → ((x : CoreWorld) → Round (f x) (g x.world))
        → Round (then_do (xt here (loop_step xs o n).did x) f) (sp.stepped p dp xs here o x.world g)
    stepped_round here None n x f g h = h x
    stepped_round here (Some e) n x f g h = run_round f g (effect_runs (normal p) dc xs here (sp.calls p dp here) (same_calls here) e n x.world x.temps) h

    -- one pass from the turn on
    pass_round : (here : Here) (before : Option t.Value) (s : Stmt) (step behind : Option t.Value) (n : ℕ) → Same s → (later : CoreWorld → Ending) (go : World → sp.Outcome) → ((x : CoreWorld) → Round (later x) (go x.world)) → (x : CoreWorld)
        → Round (then_do (xt here (body_of xs before s step behind n) x) later)
        (sp.tested p dp xs here before x.world (λ w. sp.after_body (sp.exec p dp xs here s w) (λ w. sp.stepped p dp xs here step w (λ w. sp.tested p dp xs here behind w go))))
    pass_round here before s step behind n like later go h x =
        let a = loop_test xs before n in
        let y = stmt xs 1 0 a.next_temp s in
        let z = loop_step xs step y.next_temp in
        let u = loop_test xs behind z.next_temp in
        let rest = join z.did u.tests in
        rw (join_ex (normal p) dc xs here a.tests (then_ (around y.did) rest) x, assoc (xt here a.tests x) (xt here (then_ (around y.did) rest)) later)
        (tested_round here before n x (λ x. then_do (xt here (then_ (around y.did) rest) x) later) (λ w. sp.after_body (sp.exec p dp xs here s w) (λ w. sp.stepped p dp xs here step w (λ w. sp.tested p dp xs here behind w go)))
        (λ x. rw (assoc (block_end (xt here y.did x)) (xt here rest) later)
        (body_round (λ x. then_do (xt here rest x) later) (λ w. sp.stepped p dp xs here step w (λ w. sp.tested p dp xs here behind w go)) (like here 1 0 a.next_temp x.world x.temps)
        (λ x. rw (join_ex (normal p) dc xs here z.did u.tests x, assoc (xt here z.did x) (xt here u.tests) later)
        (stepped_round here step y.next_temp x (λ x. then_do (xt here u.tests x) later) (λ w. sp.tested p dp xs here behind w go)
        (λ x. tested_round here behind z.next_temp x later go h))))))

    -- one pass, which begins with the annotations
    loop_round : (here : Here) (l : Loop) (last : Option ℤ) (before : Option t.Value) (s : Stmt) (step behind : Option t.Value) (n : ℕ) → Same s → (x : CoreWorld)
        → (let ss = body_of xs before s step behind n in
        Round (core.pass (normal p) dc xs here l last (xt here ss) (λ last. dc (core.again xs l last ss) here) x)
        (sp.pass p dp xs here l last before (sp.exec p dp xs here s) step behind (λ last. dp (sp.again xs l last before s step behind) here) x.world))
    loop_round here l last before s step behind n like x =
        let ss = body_of xs before s step behind n in
        let now = measure_of p.facts (in_body p.facts here x.world) l.variant in
        let go = dp (sp.again xs l now before s step behind) here in
        unless_round (at_head p.facts (in_body p.facts here x.world) l last)
        (turn_round x.world.turns x (λ x. then_do (xt here ss x) (dc (core.again xs l now ss) here))
        (λ w. sp.tested p dp xs here before w (λ w. sp.after_body (sp.exec p dp xs here s w) (λ w. sp.stepped p dp xs here step w (λ w. sp.tested p dp xs here behind w go))))
        (λ x. pass_round here before s step behind n like (dc (core.again xs l now ss) here) go (λ x. deep.loops xs l now before s step behind n here x) x))

    loop_like : (l : Loop) (before : Option t.Value) (s : Stmt) (step behind : Option t.Value) → Same s → Same (loop l before s step behind)
    loop_like l before s step behind like here b c n w tm =
        let ss = body_of xs before s step behind n in
        rw (one_ex (normal p) dc xs here (around (one (repeat l ss))) (pair w tm), one_ex (normal p) dc xs here (repeat l ss) (pair w tm))
        (round_like (loop_round (in_loop p.facts here l w) l None before s step behind n like (pair w tm)))

    -- ---- choices

    choose_end : {b c : ℕ} {w : World} {tm : Temps} {n n' : ℕ} (f g : World → sp.Outcome) {e : Ending} {r : Eval} → Forked (λ v x e. Like b c e (if is_nonzero v then f x.world else g x.world)) false w tm n n' e r
        → Like b c e (sp.ran r (λ v w. if is_nonzero v then f w else g w))
    choose_end f g (fork_early s) = halt s
    choose_end f g (forked v w1 tm1 mv h) = h

    choose_like : (e : t.Value) (s s' : Stmt) → Same s → Same s' → Same (choose e s s')
    choose_like e s s' h h' here b c n w tm =
        let q = condition (planned xs e) n in
        let n1 = next_of q in
        let n2 = (stmt xs b c n1 s).next_temp in
        let f = sp.exec p dp xs here s in
        let g = sp.exec p dp xs here s' in
        let ways : Ways = λ v x k e. Like (up k b) (up k c) e (if is_nonzero v then f x.world else g x.world) in
        choose_end f g
        (fork_ok (normal p) dc xs here ways (record { through_one = λ v x e l. block_like l; through_two = λ v x e k l. blocks_like k l }) (planned xs e) (run p.facts xs here (sp.calls p dp here) e)
        (plans_ok (normal p) dc xs here (sp.calls p dp here) (same_calls here) e).all_ok n w tm (zero_stays p.facts xs n tm)
        (λ k. (stmt xs (up k b) (up k c) n1 s).did) (λ k. (stmt xs (up k b) (up k c) n2 s').did)
        (λ k v w1 tm1 m mv. rw m (h here (up k b) (up k c) n1 w1 tm1)) (λ k v w1 tm1 m mv. rw m (h' here (up k b) (up k c) n2 w1 tm1)))

    -- ---- all statements

    switch_stmt : (e : t.Value) (ss : Stmts) → AllLike p dp dc xs ss → Same (switch e ss)
    switch_stmt e ss h here b c n w tm =
        let m = (planned xs e).made n in
        let x = save_unless (is_settled m.value) m in
        let calls = sp.calls p dp here in
        rw (join_ex (normal p) dc xs here x.before (one (around (groups xs c x.next_temp false (dispatch x.value ss ss) ss).did)) (pair w tm))
        (switch_body p dp dc xs here ss h x
        (unless_sure (normal p) dc xs here calls (same_calls here) m (is_settled m.value) (settled_sure xs m.value) (planned_gives (normal p) dc xs here calls (same_calls here) e n w tm)))

    mutual
      pub stmt_like : (s : Stmt) → Same s
      stmt_like (evaluate e) here b c n w tm = runs_like (effect_runs (normal p) dc xs here (sp.calls p dp here) (same_calls here) e n w tm)
      stmt_like (block ys ss) here b c n w tm =
          rw (one_ex (normal p) dc xs here (scope ys (stmts xs b c n ss).did) (pair w tm)) (scope_like w.memory ys (all_stmts p dp dc xs ss (all_like ss) here b c n (entered p.facts xs ys w) tm))
      stmt_like (initial x line e) here b c n w tm = started_like (normal p) dc xs here (sp.calls p dp here) (same_calls here) x e b c n w tm
      stmt_like (choose e s s') here b c n w tm = choose_like e s s' (stmt_like s) (stmt_like s') here b c n w tm
      stmt_like (loop l before s step behind) here b c n w tm = loop_like l before s step behind (stmt_like s) here b c n w tm
      stmt_like (switch e ss) here b c n w tm = switch_stmt e ss (all_like ss) here b c n w tm
      stmt_like (case_of z) here b c n w tm = on (pair w tm)
      stmt_like default here b c n w tm = on (pair w tm)
      stmt_like break here b c n w tm = out (pair w tm)
      stmt_like continue here b c n w tm = once_more (pair w tm)
      stmt_like (return_of e) here b c n w tm = return_like e here b c n w tm
      stmt_like (assert q) here b c n w tm =
          rw (one_ex (normal p) dc xs here (claim q) (pair w tm)) (unless_like (unless_true (holds p.facts (in_body p.facts here w) q.what) claims.assert q.line) (on (pair w tm)))

      pub all_like : (ss : Stmts) → AllLike p dp dc xs ss
      all_like stop = tt
      all_like (more s ss) = (stmt_like s, all_like ss)

  pub level_deep : Deep (sp.task_by p dp) (core.task_by (normal p) dc)
  level_deep = record {
    bodies = λ f here w. all_stmts p dp dc f.variables f.body (all_like f.variables f.body) here 0 0 0 w no_temps;
    loops = λ xs l last before s step behind n here x. loop_round xs here l last before s step behind n (stmt_like xs s) x;
  }
