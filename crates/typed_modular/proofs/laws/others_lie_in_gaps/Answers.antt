use Rattle.typed_modular.proofs.Examples.{others_lie_in_gaps}
use Rattle.typed_modular.proofs.laws.others_lie_in_gaps.Goals as goal

pub returns : goal.returns
returns c = others_lie_in_gaps
