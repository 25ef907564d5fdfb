use Rattle.qed_simplify.proofs.Laws.{settings_suit}
use Rattle.qed_simplify.proofs.normal_form.settings_suit.Goals as goal

pub returns : goal.returns
returns c = settings_suit
