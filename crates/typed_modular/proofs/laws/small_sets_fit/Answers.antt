use Rattle.typed_modular.proofs.Examples.{small_sets_fit}
use Rattle.typed_modular.proofs.laws.small_sets_fit.Goals as goal

pub returns : goal.returns
returns c = small_sets_fit
