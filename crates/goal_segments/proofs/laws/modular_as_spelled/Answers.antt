use Rattle.goal_segments.proofs.Spelled.{modular_as_spelled}
use Rattle.goal_segments.proofs.laws.modular_as_spelled.Goals as goal

pub returns : goal.returns
returns c = modular_as_spelled
