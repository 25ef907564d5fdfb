use Rattle.typed_layouts.proofs.Laying.{bodies_stay_laid}
use Rattle.typed_layouts.proofs.laws.bodies_stay_laid.Goals as goal

pub returns : goal.returns
returns c = bodies_stay_laid
