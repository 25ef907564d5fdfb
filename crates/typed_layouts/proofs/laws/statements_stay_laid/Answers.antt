use Rattle.typed_layouts.proofs.Laying.{statements_stay_laid}
use Rattle.typed_layouts.proofs.laws.statements_stay_laid.Goals as goal

pub returns : goal.returns
returns c = statements_stay_laid
