use Rattle.memory_words.proofs.Valued.{expressions_evaluate}
use Rattle.memory_words.proofs.put_laws.expressions_evaluate.Goals as goal

pub returns : goal.returns
returns c = expressions_evaluate
