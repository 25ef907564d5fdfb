use Rattle.c_kinds.proofs.Converting.{conversions_keep}
use Rattle.c_kinds.proofs.laws.conversions_keep.Goals as goal

pub returns : goal.returns
returns c = conversions_keep
