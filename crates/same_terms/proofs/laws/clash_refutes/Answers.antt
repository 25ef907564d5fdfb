use Rattle.same_terms.proofs.Stated.{clash_refutes}
use Rattle.same_terms.proofs.laws.clash_refutes.Goals as goal

pub returns : goal.returns
returns c = clash_refutes
