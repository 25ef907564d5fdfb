use Rattle.qed_simplify.proofs.Laws.{each_normal}
use Rattle.qed_simplify.proofs.normal_form.each_has_normal.Goals as goal

pub returns : goal.returns
returns c = each_normal
