use Rattle.c_kinds.proofs.TwosComplement.{operators_act_on_bits}
use Rattle.c_kinds.proofs.laws.operators_act_on_bits.Goals as goal

pub returns : goal.returns
returns c = operators_act_on_bits
