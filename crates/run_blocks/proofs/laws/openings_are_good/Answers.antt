use Rattle.run_blocks.proofs.Good.{openings_are_good}
use Rattle.run_blocks.proofs.laws.openings_are_good.Goals as goal

pub returns : goal.returns
returns c = openings_are_good
