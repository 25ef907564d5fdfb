use Rattle.qed_simplify.proofs.Laws.{plain_settings}
use Rattle.qed_simplify.proofs.normal_form.plain_settings_are_regular.Goals as goal

pub returns : goal.returns
returns c = plain_settings
