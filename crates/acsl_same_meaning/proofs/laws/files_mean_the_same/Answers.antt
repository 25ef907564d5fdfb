use Rattle.acsl_same_meaning.proofs.Whole.{files_mean_the_same}
use Rattle.acsl_same_meaning.proofs.laws.files_mean_the_same.Goals as goal

pub returns : goal.returns
returns c = files_mean_the_same
