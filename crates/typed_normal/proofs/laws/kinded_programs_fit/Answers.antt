use Rattle.typed_normal.proofs.Whole.{kinded_programs_fit}
use Rattle.typed_normal.proofs.laws.kinded_programs_fit.Goals as goal

pub returns : goal.returns
returns c = kinded_programs_fit
