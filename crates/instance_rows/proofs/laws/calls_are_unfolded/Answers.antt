use Rattle.instance_rows.proofs.Stated.{calls}
use Rattle.instance_rows.proofs.laws.calls_are_unfolded.Goals as goal

pub returns : goal.returns
returns c = calls
