use Rattle.value_words.proofs.laws.values_are_filled.Goals as goal
use Rattle.value_words.proofs.Filled as filled

pub returns : goal.returns
returns c = filled.values_are_filled
