use Rattle.qed_simplify.proofs.Laws.{normal-keeps}
use Rattle.qed_simplify.proofs.normal_form.normal_keeps_meaning.Goals as goal

pub returns : goal.returns
returns c = normal-keeps
