use Rattle.c_scopes.proofs.Holding.{structs_are_within}
use Rattle.c_scopes.proofs.laws.structs_are_within.Goals as goal

pub returns : goal.returns
returns c = structs_are_within
