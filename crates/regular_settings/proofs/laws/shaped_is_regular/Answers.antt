use Rattle.regular_settings.proofs.Regular.{shaped_is_regular}
use Rattle.regular_settings.proofs.laws.shaped_is_regular.Goals as goal

pub returns : goal.returns
returns c = shaped_is_regular
