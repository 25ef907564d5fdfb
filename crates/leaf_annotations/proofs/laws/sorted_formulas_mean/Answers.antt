use Rattle.leaf_annotations.proofs.Formulas.{formulas_mean}
use Rattle.leaf_annotations.proofs.laws.sorted_formulas_mean.Goals as goal

pub returns : goal.returns
returns c = formulas_mean
