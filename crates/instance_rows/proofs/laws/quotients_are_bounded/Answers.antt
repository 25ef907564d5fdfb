use Rattle.instance_rows.proofs.Stated.{quotients}
use Rattle.instance_rows.proofs.laws.quotients_are_bounded.Goals as goal

pub returns : goal.returns
returns c = quotients
