use Rattle.std.proofs.Common.{◌≡◌, ◌-◌, false, map, All, subst, sym, inr, arith}
use Rattle.qed_terms.specs.View.{view_setting}
use Rattle.branches.specs.Expansion.{rules_of, stand, FromRound, is_empty}
use Rattle.branches.specs.Ids.{task_of, tasks_of, branch_of, turn_of}
use Rattle.branches.proofs.Stores.{tasks_same, tasks_still, added_of, added_held, pushed_later, held_later}
use Rattle.branches.proofs.Turning.{none_added, some_added, nothing_added, leaf_made, round_made}
use Rattle.branches.proofs.turns.round_turn.Goals as goal

pub returns-then-len-eq0-clause-held : goal.returns-then-len-eq0-clause-held
returns-then-len-eq0-clause-held g c =
    let held = g.S.TermStore.held in
    let tree = g.S.TermStore.tree in
    tasks_still (held c.args.store.now) (held c.round.new.store) (tree c.args.store.now) (tree c.round.new.store) c.in_ok-added.ensures.older c.args.todo.now.items c.requires.todo

pub returns-then-len-eq0-clause-turn : goal.returns-then-len-eq0-clause-turn
returns-then-len-eq0-clause-turn g c =
    let held = g.S.TermStore.held in
    let tree = g.S.TermStore.tree in
    let s = c.args.store.now in
    let s' = c.round.new.store in
    let world = view_setting c.args.world.now in
    let round = g.R.BranchRules.round world in
    let t = c.args.task.now in
    let b = branch_of (tree s) t.at in
    let later = tasks_of (tree s) c.args.todo.now.items in
    let same = tasks_same (held s) (held s') (tree s) (tree s') c.in_ok-added.ensures.older c.args.todo.now.items c.requires.todo in
    let made = c.in_ok-turned-2.turned in
    let here = stand (task_of (tree s) t) later c.args.leaves in
    let change = g.R.BranchRules.change world in
    let closed = g.R.BranchRules.closed in
    let leaf = leaf_made c.args.course.passes closed change round b t.fuel c.args.leaves t.asks later made c.in_ok-turned-2.ensures in
    let none = none_added (tree s') c.in_ok-added.added c.len.result c.len.ensures c.if-len-eq0.true in
    let stuck = nothing_added c.args.course.passes closed change round here (map (tree s') c.in_ok-added.added) (g.met.R.BranchRules.one_round world) c.in_ok-added.ensures.adds none in
    subst (λ z. FromRound (rules_of c.args.course.passes closed change round) here (turn_of b made z)) (sym same) (inr (stuck, leaf))

pub returns-clause-held : goal.returns-clause-held
returns-clause-held g c =
    let held = g.S.TermStore.held in
    let tree = g.S.TermStore.tree in
    let s = c.args.store.now in
    let s' = c.round.new.store in
    let older = c.in_ok-added.ensures.older in
    let at = c.in_ok-at.at in
    let added_are_held = subst (All (held s')) (sym c.as_slice.ensures) c.in_ok-added.ensures.held in
    let at_held = added_held (held s) (held s') (tree s) (tree s') older c.args.task.now.at at c.as_slice.result.now c.requires.held added_are_held c.in_ok-at.ensures.literals c.in_ok-at.ensures.waiting in
    held_later (held s) (held s') (tree s) (tree s') older c.args.todo.now.items c.push.new.self.items _ c.requires.todo at_held c.in_ok-push.ensures.items

pub returns-clause-turn : goal.returns-clause-turn
returns-clause-turn g c =
    let held = g.S.TermStore.held in
    let tree = g.S.TermStore.tree in
    let s = c.args.store.now in
    let s' = c.round.new.store in
    let older = c.in_ok-added.ensures.older in
    let world = view_setting c.args.world.now in
    let t = c.args.task.now in
    let b = branch_of (tree s) t.at in
    let at = c.in_ok-at.at in
    let ids = c.in_ok-added.added in
    let later = tasks_of (tree s) c.args.todo.now.items in
    let pushed = pushed_later (held s) (held s') (tree s) (tree s') older c.args.todo.now.items c.push.new.self.items _ c.requires.todo c.in_ok-push.ensures.items in
    let new = added_of (held s) (held s') (tree s) (tree s') older t.at at c.as_slice.result.now c.requires.held c.in_ok-at.ensures.literals c.in_ok-at.ensures.waiting in
    let adds = subst (λ z. g.R.BranchRules.round world b (map (tree s') z)) (sym c.as_slice.ensures) c.in_ok-added.ensures.adds in
    let some = some_added (tree s') ids c.len.result c.len.ensures c.if-len-eq0.false in
    let some' = subst (λ z. is_empty (map (tree s') z) ≡ false) (sym c.as_slice.ensures) some in
    round_made c.args.course.passes g.R.BranchRules.closed (g.R.BranchRules.change world) (g.R.BranchRules.round world) t.fuel (t.fuel - 1) c.args.leaves t.asks b (branch_of (tree s') at) later _ (map (tree s') c.as_slice.result.now)
    (omega (arith, c.if-task-eq0.false)) adds some' pushed new
