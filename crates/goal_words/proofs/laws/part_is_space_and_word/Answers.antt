use Rattle.goal_words.proofs.Front.{one_space, is_part}
use Rattle.goal_words.proofs.laws.part_is_space_and_word.Goals as goal

pub returns : goal.returns
returns c = λ bytes word rest. ((λ e. one_space bytes word rest e), (λ e. is_part bytes word rest e.0 e.1 e.2))
