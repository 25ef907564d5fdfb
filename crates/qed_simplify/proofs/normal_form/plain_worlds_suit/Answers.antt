use Rattle.qed_simplify.proofs.Laws.{plain_worlds_suit}
use Rattle.qed_simplify.proofs.normal_form.plain_worlds_suit.Goals as goal

pub returns : goal.returns
returns c = plain_worlds_suit
