use Rattle.same_terms.proofs.Stated.{rows_agree}
use Rattle.same_terms.proofs.laws.rows_agree.Goals as goal

pub returns : goal.returns
returns c = rows_agree
