use Rattle.expansion_ends.proofs.Valid.{closed_is_valid}
use Rattle.expansion_ends.proofs.laws.closed_is_valid.Goals as goal

pub returns : goal.returns
returns g c = closed_is_valid g.R.BranchRules.closed g.R.BranchRules.round
