use Rattle.typed_normal.proofs.Giving.{typed_programs_fit}
use Rattle.typed_normal.proofs.laws.typed_programs_fit.Goals as goal

pub returns : goal.returns
returns c = typed_programs_fit
