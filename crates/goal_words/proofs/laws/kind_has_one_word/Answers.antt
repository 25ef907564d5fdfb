use Rattle.std.proofs.Common.{ap, ◌∙◌}
use Rattle.goal_words.specs.Kinds.{cell_of}
use Rattle.goal_words.proofs.Naming.{cell_is, cell_found}
use Rattle.goal_words.proofs.laws.kind_has_one_word.Goals as goal

pub returns : goal.returns
returns c = λ word k. ((λ e. cell_is word k e), (λ e. ap cell_of e ∙ cell_found k))
