use Rattle.std.proofs.Common.{inr, subst}
use Rattle.qed_terms.specs.View.{view_setting}
use Rattle.branches.specs.Steps.{Tried}
use Rattle.branches.specs.Expansion.{rules_of, FromSplit}
use Rattle.branches.specs.Ids.{tasks_of, branch_of, branch_made, MadeHeld}
use Rattle.branches.proofs.Stores.{tasks_still, pushed_later, held_later}
use Rattle.branches.proofs.Turning.{change_made, from_older}
use Rattle.branches.proofs.turns.change_turn.Goals as goal

pub split_turn-requires-clause-todo : goal.split_turn-requires-clause-todo
split_turn-requires-clause-todo g c =
    let held = g.S.TermStore.held in
    let tree = g.S.TermStore.tree in
    tasks_still (held c.args.store.now) (held c.change.new.store) (tree c.args.store.now) (tree c.change.new.store) c.in_ok-changed.ensures.older c.args.todo.now.items c.requires.todo

pub returns-in_ok-push-in-Some-clause-held : goal.returns-in_ok-push-in-Some-clause-held
returns-in_ok-push-in-Some-clause-held g c =
    let held = g.S.TermStore.held in
    let tree = g.S.TermStore.tree in
    let s = c.args.store.now in
    let s' = c.change.new.store in
    held_later (held s) (held s') (tree s) (tree s') c.in_ok-changed.ensures.older c.args.todo.now.items c.push.new.self.items _ c.requires.todo
    (subst (MadeHeld (held s')) c.in-Some.is c.in_ok-changed.ensures.held) c.in_ok-push-in-Some.ensures.items

pub returns-in_ok-push-in-Some-clause-turn : goal.returns-in_ok-push-in-Some-clause-turn
returns-in_ok-push-in-Some-clause-turn g c =
    let held = g.S.TermStore.held in
    let tree = g.S.TermStore.tree in
    let s = c.args.store.now in
    let s' = c.change.new.store in
    let world = view_setting c.args.world.now in
    let t = c.args.task.now in
    let b = branch_of (tree s) t.at in
    let change = g.R.BranchRules.change world in
    let pushed = pushed_later (held s) (held s') (tree s) (tree s') c.in_ok-changed.ensures.older c.args.todo.now.items c.push.new.self.items _ c.requires.todo c.in_ok-push-in-Some.ensures.items in
    change_made c.args.course.passes g.R.BranchRules.closed change (g.R.BranchRules.round world) t.fuel c.args.leaves t.asks b (branch_of (tree s') c.in-Some.at) (tasks_of (tree s) c.args.todo.now.items) _
    (subst (λ z. Tried change b (branch_made (tree s') z)) c.in-Some.is c.in_ok-changed.ensures.tried) pushed

pub returns-in_ok-turned-in-None-clause-turn : goal.returns-in_ok-turned-in-None-clause-turn
returns-in_ok-turned-in-None-clause-turn g c =
    let held = g.S.TermStore.held in
    let tree = g.S.TermStore.tree in
    let s = c.args.store.now in
    let s' = c.change.new.store in
    let world = view_setting c.args.world.now in
    let change = g.R.BranchRules.change world in
    let stuck = subst (λ z. Tried change (branch_of (tree s) c.args.task.now.at) (branch_made (tree s') z)) c.in-None.is c.in_ok-changed.ensures.tried in
    let rules = rules_of c.args.course.passes g.R.BranchRules.closed change (g.R.BranchRules.round world) in
    inr (
      (λ o x. stuck x.0 x.1),
      from_older (held s) (held s') (tree s) (tree s') (FromSplit rules) c.args.task.now c.args.todo.now.items c.args.leaves c.in_ok-turned-in-None.turned _ c.in_ok-changed.ensures.older c.requires.held c.requires.todo c.in_ok-turned-in-None.ensures.turn,
    )
