use Rattle.plain_programs.proofs.Sequenced.{sequenced_are_single}
use Rattle.plain_programs.proofs.laws.sequenced_are_single.Goals as goal

pub returns : goal.returns
returns c = sequenced_are_single
