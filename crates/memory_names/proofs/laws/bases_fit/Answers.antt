use Rattle.memory_names.proofs.laws.bases_fit.Goals as goal
use Rattle.memory_names.proofs.Fitting as proof

pub returns : goal.returns
returns c = proof.bases_fit
