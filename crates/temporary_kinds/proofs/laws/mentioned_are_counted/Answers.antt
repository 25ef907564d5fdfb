use Rattle.temporary_kinds.proofs.Counted.{mentioned_are_counted}
use Rattle.temporary_kinds.proofs.laws.mentioned_are_counted.Goals as goal

pub returns : goal.returns
returns c = mentioned_are_counted
