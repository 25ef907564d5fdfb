use Rattle.c_decls.proofs.Placing.{variables_have_places}
use Rattle.c_decls.proofs.laws.variables_have_places.Goals as goal

pub returns : goal.returns
returns c = variables_have_places
