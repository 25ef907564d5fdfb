use Rattle.acsl_same_meaning.proofs.Whole.{programs_mean_the_same}
use Rattle.acsl_same_meaning.proofs.laws.programs_mean_the_same.Goals as goal

pub returns : goal.returns
returns c = programs_mean_the_same
