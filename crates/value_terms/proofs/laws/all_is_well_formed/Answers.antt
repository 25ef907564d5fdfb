use Rattle.value_terms.proofs.FittingWords.{all_is_well_formed}
use Rattle.value_terms.proofs.laws.all_is_well_formed.Goals as goal

pub returns : goal.returns
returns c = all_is_well_formed
