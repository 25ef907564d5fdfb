use Rattle.qed_simplify.proofs.Laws.{normal_is_one}
use Rattle.qed_simplify.proofs.normal_form.normal_is_one.Goals as goal

pub returns : goal.returns
returns c = normal_is_one
