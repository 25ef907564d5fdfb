use Rattle.kinded_programs.proofs.TypedValues.{well_typed_are_kinded}
use Rattle.kinded_programs.proofs.laws.well_typed_are_kinded.Goals as goal

pub returns : goal.returns
returns c = well_typed_are_kinded
