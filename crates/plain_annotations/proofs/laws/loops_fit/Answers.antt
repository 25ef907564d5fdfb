use Rattle.plain_annotations.proofs.laws.loops_fit.Goals as goal
use Rattle.plain_annotations.proofs.Clauses as proof

pub returns : goal.returns
returns c = proof.loops_fit
