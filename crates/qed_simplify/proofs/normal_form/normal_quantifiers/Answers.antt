use Rattle.qed_simplify.proofs.Quantifiers.{normal_quantifiers}
use Rattle.qed_simplify.proofs.normal_form.normal_quantifiers.Goals as goal

pub returns : goal.returns
returns c = normal_quantifiers
