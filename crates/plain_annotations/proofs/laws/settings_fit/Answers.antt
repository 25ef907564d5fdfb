use Rattle.plain_annotations.proofs.laws.settings_fit.Goals as goal
use Rattle.plain_annotations.proofs.Settings as proof

pub returns : goal.returns
returns c = proof.settings_fit
