use Rattle.run_blocks.proofs.Good.{ends_are_good}
use Rattle.run_blocks.proofs.laws.ends_are_good.Goals as goal

pub returns : goal.returns
returns c = ends_are_good
