use Rattle.memory_words.proofs.Valued.{operands_evaluate}
use Rattle.memory_words.proofs.put_laws.operands_evaluate.Goals as goal

pub returns : goal.returns
returns c = operands_evaluate
