use Rattle.instance_rows.proofs.Loads.{stores_valid}
use Rattle.instance_rows.proofs.laws.loads_of_stores_are_valid.Goals as goal

pub returns : goal.returns
returns c = stores_valid
