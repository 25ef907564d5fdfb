use Rattle.typed_annotations.proofs.Contracts.{contracts_fit}
use Rattle.typed_annotations.proofs.laws.contracts_fit.Goals as goal

pub returns : goal.returns
returns c = contracts_fit
