use Rattle.plain_programs.proofs.TypedValues.{well_typed_are_plain}
use Rattle.plain_programs.proofs.laws.well_typed_are_plain.Goals as goal

pub returns : goal.returns
returns c = well_typed_are_plain
