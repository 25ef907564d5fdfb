use Rattle.plain_annotations.proofs.laws.contracts_fit.Goals as goal
use Rattle.plain_annotations.proofs.Clauses as proof

pub returns : goal.returns
returns c = proof.contracts_fit
