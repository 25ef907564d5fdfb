use Rattle.qed_numbers.proofs.Outcomes.{numbers_answer}
use Rattle.qed_numbers.proofs.laws.numbers_answer.Goals as goal

pub returns : goal.returns
returns c = numbers_answer
