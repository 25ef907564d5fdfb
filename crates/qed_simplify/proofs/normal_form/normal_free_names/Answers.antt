use Rattle.qed_simplify.proofs.Laws.{free_names}
use Rattle.qed_simplify.proofs.normal_form.normal_free_names.Goals as goal

pub returns : goal.returns
returns c = free_names
