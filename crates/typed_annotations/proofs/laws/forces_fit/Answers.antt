use Rattle.typed_annotations.proofs.Contracts.{forces_fit}
use Rattle.typed_annotations.proofs.laws.forces_fit.Goals as goal

pub returns : goal.returns
returns c = forces_fit
