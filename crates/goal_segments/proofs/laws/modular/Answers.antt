use Rattle.goal_segments.proofs.Runs.{modular}
use Rattle.goal_segments.proofs.laws.modular.Goals as goal

pub returns : goal.returns
returns c = modular
