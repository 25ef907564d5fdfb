use Rattle.typed_normal.proofs.OrderedStatements.{temporaries_are_set_first}
use Rattle.typed_normal.proofs.laws.temporaries_are_set_first.Goals as goal

pub returns : goal.returns
returns c = temporaries_are_set_first
