use Rattle.std.proofs.Common.{[], ◌∷◌, map, All, append-nil, subst, sym, ◌∙◌, arith}
use Rattle.std.proofs.lemmas.List.Elements.{All-nil, All-cons, All-append}
use Rattle.qed_terms.proofs.Kept.{kept_over}
use Rattle.qed_terms.specs.View.{view_setting}
use Rattle.branches.specs.Expansion.{Runs, rules_of, from_formula, all_closed}
use Rattle.branches.specs.Ids.{branch_of, tasks_of, end_of, BranchHeld, TasksHeld}
use Rattle.branches.proofs.Stores.{held_last, held_front, branch_still, branches_still}
use Rattle.branches.proofs.Running.{run_empty, run_ends, run_goes, run_passes, over_still, over_more}
use Rattle.branches.proofs.walk.run.Goals as goal
use Rattle.branches.proofs.walk.run.Goals.{in-Goes, in-Passes+in_ok-push-in-Passes}

pub turn-requires-clause-held : goal.turn-requires-clause-held
turn-requires-clause-held g c = held_last (g.S.TermStore.held c.loop.store) c.pop.new.self.items c.in-Some.task (subst (TasksHeld (g.S.TermStore.held c.loop.store)) c.in-Some.ensures.items c.loop.invariant.tasks)

pub turn-requires-clause-todo : goal.turn-requires-clause-todo
turn-requires-clause-todo g c = held_front (g.S.TermStore.held c.loop.store) c.pop.new.self.items c.in-Some.task (subst (TasksHeld (g.S.TermStore.held c.loop.store)) c.in-Some.ensures.items c.loop.invariant.tasks)

pub returns-in-None-clause-runs : goal.returns-in-None-clause-runs
returns-in-None-clause-runs g c =
    let tree = g.S.TermStore.tree in
    let world = view_setting c.args.world.now in
    let rules = rules_of c.args.course.passes g.R.BranchRules.closed (g.R.BranchRules.change world) (g.R.BranchRules.round world) in
    let r = c.loop.invariant.runs [] all_closed (run_empty (tree c.loop.store) rules c.args.course.budget c.loop.leaves c.loop.todo.items (let e = c.in-None.ensures.cases.0 in omega arith)) in
    subst (λ z. Runs rules c.args.course.budget (from_formula c.args.fuel (tree c.args.store.now c.args.start)) 0 z all_closed) (append-nil (map (branch_of (tree c.loop.store)) c.loop.passed)) r

pub returns-in-Ends-clause-held : goal.returns-in-Ends-clause-held
returns-in-Ends-clause-held g c =
    let held = g.S.TermStore.held in
    let tree = g.S.TermStore.tree in
    branches_still (held c.loop.store) (held c.turn.new.store) (tree c.loop.store) (tree c.turn.new.store) c.in_ok-verdict-in-Some.ensures.older c.loop.passed c.loop.invariant.over

pub returns-in-Ends-clause-runs : goal.returns-in-Ends-clause-runs
returns-in-Ends-clause-runs g c =
    let held = g.S.TermStore.held in
    let tree = g.S.TermStore.tree in
    let s = c.loop.store in
    let s' = c.turn.new.store in
    let world = view_setting c.args.world.now in
    let rules = rules_of c.args.course.passes g.R.BranchRules.closed (g.R.BranchRules.change world) (g.R.BranchRules.round world) in
    let e = end_of c.in-Ends.verdict in
    let here = run_ends (tree s) rules c.args.course.budget c.loop.leaves c.loop.todo.items c.pop.new.self.items c.in-Some.task _ _ c.in-Some.ensures.items c.in_ok-verdict-in-Some.ensures.turn c.in-Ends.verdict c.in-Ends.is in
    let r = c.loop.invariant.runs [] e here in
    let over = over_still (held s) (held s') (tree s) (tree s') c.in_ok-verdict-in-Some.ensures.older c.loop.passed c.loop.passed c.loop.invariant.over [] (λ i. c.loop.passed) in
    subst (λ z. Runs rules c.args.course.budget (from_formula c.args.fuel (tree c.args.store.now c.args.start)) 0 z e) (over ∙ append-nil (map (branch_of (tree s')) c.loop.passed)) r

pub loop-preserved : goal.loop-preserved
loop-preserved g c =
    let held = g.S.TermStore.held in
    let tree = g.S.TermStore.tree in
    let s0 = c.args.store.now in
    let s = c.loop.store in
    let s' = c.turn.new.store in
    let turn = c.in_ok-verdict-in-Some.ensures in
    let world = view_setting c.args.world.now in
    let rules = rules_of c.args.course.passes g.R.BranchRules.closed (g.R.BranchRules.change world) (g.R.BranchRules.round world) in
    let budget = c.args.course.budget in
    let from = from_formula c.args.fuel (tree s0 c.args.start) in
    let kept = kept_over (held s0) (held s) (held s') (tree s0) (tree s) (tree s') c.loop.invariant.kept turn.older in
    let still = branches_still (held s) (held s') (tree s) (tree s') turn.older c.loop.passed c.loop.invariant.over in
    let at = c.in-Some.task.at in
    let at_held = held_last (held s) c.pop.new.self.items c.in-Some.task (subst (TasksHeld (held s)) c.in-Some.ensures.items c.loop.invariant.tasks) in
    elim c.match-branch-4.branch [
      | in-Goes w ↦ record {
        ready = turn.ready;
        kept = kept;
        tasks = turn.held;
        over = subst (All (BranchHeld (held s'))) (sym w.passed-is) still;
        runs = λ bs e r.
            let on = run_goes (tree s) rules budget c.loop.leaves c.loop.todo.items c.pop.new.self.items c.in-Some.task _ _ c.in-Some.ensures.items turn.turn _ bs e w.in-Goes.is (subst (λ z. Runs rules budget (tasks_of (tree s') c.turn.new.todo.items) z bs e) w.leaves-is r) in
            subst (λ z. Runs rules budget from 0 z e) (over_still (held s) (held s') (tree s) (tree s') turn.older c.loop.passed _ c.loop.invariant.over bs w.passed-is) (c.loop.invariant.runs bs e on);
      }
      | in-Passes+in_ok-push-in-Passes w ↦
          let pushed = w.passed-is ∙ w.in_ok-push-in-Passes.ensures.ok in
          record {
            ready = turn.ready;
            kept = kept;
            tasks = turn.held;
            over = subst (All (BranchHeld (held s'))) (sym pushed) (All-append (BranchHeld (held s')) c.loop.passed (at ∷ []) still (All-cons (BranchHeld (held s')) at [] (branch_still (held s) (held s') (tree s) (tree s') turn.older at at_held) (All-nil (BranchHeld (held s')))));
            runs = λ bs e r.
                let on = run_passes (tree s) rules budget c.loop.leaves c.loop.todo.items c.pop.new.self.items c.in-Some.task _ _ c.in-Some.ensures.items turn.turn _ bs e w.in-Passes.is (subst (λ z. Runs rules budget (tasks_of (tree s') c.turn.new.todo.items) z bs e) w.leaves-is r) in
                subst (λ z. Runs rules budget from 0 z e) (over_more (held s) (held s') (tree s) (tree s') turn.older c.loop.passed _ c.loop.invariant.over bs at at_held pushed) (c.loop.invariant.runs (branch_of (tree s) at ∷ bs) e on);
          }
    ]
