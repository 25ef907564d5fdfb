use Rattle.expansion_ends.proofs.One.{comes_to_one_end}
use Rattle.expansion_ends.proofs.laws.comes_to_one_end.Goals as goal

pub returns : goal.returns
returns g c = comes_to_one_end g.R.BranchRules.closed g.R.BranchRules.round
