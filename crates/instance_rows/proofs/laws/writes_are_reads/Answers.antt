use Rattle.instance_rows.proofs.Blocks.{writes_valid}
use Rattle.instance_rows.proofs.laws.writes_are_reads.Goals as goal

pub returns : goal.returns
returns c = writes_valid
