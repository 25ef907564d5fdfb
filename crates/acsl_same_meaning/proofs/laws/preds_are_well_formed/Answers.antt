use Rattle.acsl_same_meaning.proofs.Whole.{preds_are_well_formed}
use Rattle.acsl_same_meaning.proofs.laws.preds_are_well_formed.Goals as goal

pub returns : goal.returns
returns c = preds_are_well_formed
