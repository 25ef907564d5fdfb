use Rattle.qed_numbers.proofs.Keeps.{long_keeps}
use Rattle.qed_numbers.proofs.laws.long_keeps_meaning.Goals as goal

pub returns : goal.returns
returns c = long_keeps
