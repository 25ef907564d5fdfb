use Rattle.instance_rows.proofs.Stated.{made_blocks}
use Rattle.instance_rows.proofs.laws.made_blocks_answer.Goals as goal

pub returns : goal.returns
returns c = made_blocks
