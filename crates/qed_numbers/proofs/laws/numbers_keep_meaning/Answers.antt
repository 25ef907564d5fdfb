use Rattle.qed_numbers.proofs.Keeps.{numbers_keep}
use Rattle.qed_numbers.proofs.laws.numbers_keep_meaning.Goals as goal

pub returns : goal.returns
returns c = numbers_keep
