use Rattle.std.proofs.Common.{ap, sym, ◌∙◌}
use Rattle.goal_words.specs.Numbers.{count}
use Rattle.goal_words.proofs.Numerals.{count_is, count_text}
use Rattle.goal_words.proofs.laws.count_has_one_text.Goals as goal

pub returns : goal.returns
returns c = λ word n. ((λ e. count_is word n e), (λ e. ap count (sym e.0) ∙ count_text n e.1))
