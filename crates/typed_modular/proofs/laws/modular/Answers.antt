use Rattle.typed_modular.proofs.Runs.{modular}
use Rattle.typed_modular.proofs.laws.modular.Goals as goal

pub returns : goal.returns
returns c = modular
