use Rattle.instance_rows.proofs.Blocks.{reads_valid}
use Rattle.instance_rows.proofs.laws.reads_have_places.Goals as goal

pub returns : goal.returns
returns c = reads_valid
