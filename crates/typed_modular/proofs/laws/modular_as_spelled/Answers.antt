use Rattle.typed_modular.proofs.Spelled.{modular_as_spelled}
use Rattle.typed_modular.proofs.laws.modular_as_spelled.Goals as goal

pub returns : goal.returns
returns c = modular_as_spelled
