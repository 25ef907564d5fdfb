use Rattle.walk_frames.proofs.Closedness.{formulas_closed}
use Rattle.walk_frames.proofs.laws.formulas_are_closed.Goals as goal

pub returns : goal.returns
returns c = formulas_closed
