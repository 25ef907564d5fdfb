use Rattle.leaf_annotations.proofs.Formulas.{terms_mean}
use Rattle.leaf_annotations.proofs.laws.terms_mean.Goals as goal

pub returns : goal.returns
returns c = terms_mean
