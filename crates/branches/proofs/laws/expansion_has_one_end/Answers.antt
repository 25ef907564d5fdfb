use Rattle.branches.proofs.Ends.{one_end_by}
use Rattle.branches.proofs.laws.expansion_has_one_end.Goals as goal

pub returns : goal.returns
returns g c setting passes = one_end_by passes g.R.BranchRules.closed (g.R.BranchRules.change setting) (g.R.BranchRules.round setting)
