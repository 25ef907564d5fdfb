use Rattle.std.proofs.Common.{map, inr, subst, Some, None, arith}
use Rattle.std.proofs.lemmas.List.{length-map}
use Rattle.qed_terms.specs.View.{view_setting}
use Rattle.branches.specs.Firsts.{IsFirst}
use Rattle.branches.specs.Branch.{IsOr}
use Rattle.branches.specs.Expansion.{stand}
use Rattle.branches.specs.Ids.{task_of, tasks_of}
use Rattle.branches.proofs.Turning.{no_split}
use Rattle.branches.proofs.Found.{split_made}
use Rattle.branches.proofs.turns.split_turn.Goals as goal

pub push_disjuncts-requires-clause-within : goal.push_disjuncts-requires-clause-within
push_disjuncts-requires-clause-within g c =
    let ids = c.args.task.now.at.waiting in
    let tree = g.S.TermStore.tree c.args.store.now in
    let long = length-map ids tree in
    let first = subst (λ z. IsFirst IsOr (map tree z) (Some c.in-Some.at)) c.as_slice.ensures c.in-Some.ensures in
    let k = first.0 in
    omega (arith, k, long)

pub returns-in_ok-push_disjuncts-in-Some-clause-turn : goal.returns-in_ok-push_disjuncts-in-Some-clause-turn
returns-in_ok-push_disjuncts-in-Some-clause-turn g c =
    let tree = g.S.TermStore.tree c.args.store.now in
    let world = view_setting c.args.world.now in
    let t = c.args.task.now in
    let first = subst (λ z. IsFirst IsOr (map tree z) (Some c.in-Some.at)) c.as_slice.ensures c.in-Some.ensures in
    split_made c.args.course.passes g.R.BranchRules.closed (g.R.BranchRules.change world) (g.R.BranchRules.round world) tree t.fuel c.args.leaves t.asks (map tree t.at.literals) t.at.waiting c.in-Some.at
    (tasks_of tree c.args.todo.now.items) (tasks_of tree c.push_disjuncts.new.todo.items) first c.in_ok-push_disjuncts-in-Some.ensures.pushed

pub returns-in_ok-turned-in-None-clause-turn : goal.returns-in_ok-turned-in-None-clause-turn
returns-in_ok-turned-in-None-clause-turn g c =
    let tree = g.S.TermStore.tree c.args.store.now in
    let world = view_setting c.args.world.now in
    let none = subst (λ z. IsFirst IsOr (map tree z) None) c.as_slice.ensures c.in-None.ensures in
    inr (no_split c.args.course.passes g.R.BranchRules.closed (g.R.BranchRules.change world) (g.R.BranchRules.round world) (stand (task_of tree c.args.task.now) (tasks_of tree c.args.todo.now.items) c.args.leaves) none, c.in_ok-turned-in-None.ensures.turn)
