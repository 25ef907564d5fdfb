use Rattle.instance_rows.proofs.Quotients.{choices_valid}
use Rattle.instance_rows.proofs.laws.choices_are_arms.Goals as goal

pub returns : goal.returns
returns c = choices_valid
