use Rattle.congruence.proofs.SameClass.{stay_closed}
use Rattle.congruence.proofs.laws.classes_stay.Goals as goal

pub returns : goal.returns
returns c = stay_closed
