use Rattle.run_blocks.proofs.Standing.{standing_blocks}
use Rattle.run_blocks.proofs.laws.standing_blocks.Goals as goal

pub returns : goal.returns
returns c = standing_blocks
