use Rattle.acsl_encode.proofs.Settings.{setting_stands}
use Rattle.acsl_encode.proofs.laws.setting_stands.Goals as goal

pub returns : goal.returns
returns c = setting_stands
