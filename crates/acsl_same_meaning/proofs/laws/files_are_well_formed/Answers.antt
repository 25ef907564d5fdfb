use Rattle.acsl_same_meaning.proofs.Whole.{files_are_well_formed}
use Rattle.acsl_same_meaning.proofs.laws.files_are_well_formed.Goals as goal

pub returns : goal.returns
returns c = files_are_well_formed
