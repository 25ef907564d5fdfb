use Rattle.leaf_annotations.proofs.Formulas.{formulas_are_closed}
use Rattle.leaf_annotations.proofs.laws.formulas_are_closed.Goals as goal

pub returns : goal.returns
returns c = formulas_are_closed
