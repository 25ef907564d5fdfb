use Rattle.c_runs.proofs.Unfolding.{recursion_unfolds}
use Rattle.c_runs.proofs.truth_laws.recursion_unfolds.Goals as goal

pub returns : goal.returns
returns c = recursion_unfolds
