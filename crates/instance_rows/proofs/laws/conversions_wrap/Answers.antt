use Rattle.instance_rows.proofs.Stated.{conversions}
use Rattle.instance_rows.proofs.laws.conversions_wrap.Goals as goal

pub returns : goal.returns
returns c = conversions
