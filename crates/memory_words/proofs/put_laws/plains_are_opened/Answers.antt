use Rattle.memory_words.proofs.Opening.{plains_are_opened}
use Rattle.memory_words.proofs.put_laws.plains_are_opened.Goals as goal

pub returns : goal.returns
returns c = plains_are_opened
