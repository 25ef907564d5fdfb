use Rattle.qed_terms.specs.View.{view_setting}
use Rattle.branches.proofs.Running.{none_over}
use Rattle.branches.proofs.walk.expand.Goals as goal

pub returns-clause-runs : goal.returns-clause-runs
returns-clause-runs g c =
    let world = view_setting c.args.world.now in
    none_over g.R.BranchRules.closed (g.R.BranchRules.change world) (g.R.BranchRules.round world) c.args.budget _ _ _ _ c.in_ok-expanded.ensures.runs
