use Rattle.binder_names.proofs.laws.names_fit.Goals as goal
use Rattle.binder_names.proofs.Naming as proof

pub returns : goal.returns
returns c = proof.names_fit
