use Rattle.c_scopes.proofs.Holding.{extents_are_within}
use Rattle.c_scopes.proofs.laws.extents_are_within.Goals as goal

pub returns : goal.returns
returns c = extents_are_within
