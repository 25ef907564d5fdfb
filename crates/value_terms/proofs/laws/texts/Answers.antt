use Rattle.value_terms.proofs.Examples.{texts}
use Rattle.value_terms.proofs.laws.texts.Goals as goal

pub returns : goal.returns
returns c = texts
