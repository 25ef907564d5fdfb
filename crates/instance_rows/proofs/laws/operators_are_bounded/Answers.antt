use Rattle.instance_rows.proofs.Stated.{operators}
use Rattle.instance_rows.proofs.laws.operators_are_bounded.Goals as goal

pub returns : goal.returns
returns c = operators
