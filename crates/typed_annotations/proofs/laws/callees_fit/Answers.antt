use Rattle.typed_annotations.proofs.Contracts.{callees_fit}
use Rattle.typed_annotations.proofs.laws.callees_fit.Goals as goal

pub returns : goal.returns
returns c = callees_fit
