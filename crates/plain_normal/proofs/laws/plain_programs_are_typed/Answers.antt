use Rattle.plain_normal.proofs.Whole.{plain_programs_are_typed}
use Rattle.plain_normal.proofs.laws.plain_programs_are_typed.Goals as goal

pub returns : goal.returns
returns c = plain_programs_are_typed
