use Rattle.expansion_ends.proofs.Verdicts.{ends_are_verdicts}
use Rattle.expansion_ends.proofs.laws.ends_are_verdicts.Goals as goal

pub returns : goal.returns
returns g c = ends_are_verdicts g.R.BranchRules.closed g.R.BranchRules.round
