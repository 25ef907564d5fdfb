use Rattle.c_scopes.proofs.Declaring.{scopes_nest}
use Rattle.c_scopes.proofs.laws.scopes_nest.Goals as goal

pub returns : goal.returns
returns c = scopes_nest
