use Rattle.std.proofs.Common.{ap, sym, ◌∙◌}
use Rattle.goal_words.specs.Numbers.{number}
use Rattle.goal_words.proofs.Numerals.{number_is, number_text}
use Rattle.goal_words.proofs.laws.number_has_one_text.Goals as goal

pub returns : goal.returns
returns c = λ word z. ((λ e. number_is word z e), (λ e. ap number (sym e.0) ∙ number_text z e.1))
