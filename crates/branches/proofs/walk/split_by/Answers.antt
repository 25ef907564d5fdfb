use Rattle.std.proofs.Common.{map, true, subst}
use Rattle.qed_terms.specs.View.{view_setting}
use Rattle.branches.specs.Expansion.{Runs, rules_of, from_formula}
use Rattle.branches.specs.Ids.{branch_of, end_of}
use Rattle.branches.proofs.Running.{never_open}
use Rattle.branches.proofs.walk.split_by.Goals as goal

pub unreachable-requires : goal.unreachable-requires
unreachable-requires g c =
    let tree = g.S.TermStore.tree in
    let world = view_setting c.args.world.now in
    let closed = g.R.BranchRules.closed in
    let change = g.R.BranchRules.change world in
    let round = g.R.BranchRules.round world in
    let start = from_formula 0 (tree c.args.store.now c.args.start) in
    let over = map (branch_of (tree c.run.new.store)) c.in-Ok.expanded.passed in
    never_open closed change round c.args.limit start 0 over (subst (λ v. Runs (rules_of true closed change round) c.args.limit start 0 over (end_of v)) c.in-Open.is c.in-Ok.ensures.runs)
