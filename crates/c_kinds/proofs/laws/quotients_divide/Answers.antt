use Rattle.c_kinds.proofs.Results.{quotients_divide}
use Rattle.c_kinds.proofs.laws.quotients_divide.Goals as goal

pub returns : goal.returns
returns c = quotients_divide
