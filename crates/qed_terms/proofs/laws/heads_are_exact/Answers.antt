use Rattle.qed_terms.proofs.Total.{heads_are_exact}
use Rattle.qed_terms.proofs.laws.heads_are_exact.Goals as goal

pub returns : goal.returns
returns c = heads_are_exact
