use Rattle.value_words.proofs.Adding.{asks_if}
use Rattle.value_words.proofs.operations.push_ordered.Goals as goal

pub returns-then-is_order : goal.returns-then-is_order
returns-then-is_order c = λ p xs ts. asks_if _ _ _ _ _ _ _ (cc) (c.push_comparing.ensures p xs ts)
