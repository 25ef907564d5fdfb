use Rattle.instance_rows.proofs.Stated.{layouts}
use Rattle.instance_rows.proofs.laws.layouts_answer.Goals as goal

pub returns : goal.returns
returns c = layouts
