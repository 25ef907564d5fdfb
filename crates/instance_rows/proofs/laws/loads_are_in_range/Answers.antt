use Rattle.instance_rows.proofs.Loads.{ranges_follow}
use Rattle.instance_rows.proofs.laws.loads_are_in_range.Goals as goal

pub returns : goal.returns
returns c = ranges_follow
