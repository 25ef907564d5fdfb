use Rattle.plain_annotations.proofs.laws.plain_settings_fit.Goals as goal
use Rattle.plain_annotations.proofs.Settings as proof

pub returns : goal.returns
returns c = proof.plain_settings_fit
