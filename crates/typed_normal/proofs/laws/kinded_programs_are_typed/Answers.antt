use Rattle.typed_normal.proofs.Whole.{kinded_programs_are_typed}
use Rattle.typed_normal.proofs.laws.kinded_programs_are_typed.Goals as goal

pub returns : goal.returns
returns c = kinded_programs_are_typed
