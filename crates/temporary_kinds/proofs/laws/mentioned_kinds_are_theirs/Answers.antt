use Rattle.temporary_kinds.proofs.Kinds_theirs.{mentioned_kinds_are_theirs}
use Rattle.temporary_kinds.proofs.laws.mentioned_kinds_are_theirs.Goals as goal

pub returns : goal.returns
returns c = mentioned_kinds_are_theirs
