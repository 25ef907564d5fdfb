use Rattle.typed_annotations.proofs.Contracts.{loops_fit}
use Rattle.typed_annotations.proofs.laws.loops_fit.Goals as goal

pub returns : goal.returns
returns c = loops_fit
