use Rattle.memory_words.proofs.ReadingStanding.{expressions_read}
use Rattle.memory_words.proofs.reading_laws.expressions_read.Goals as goal

pub returns : goal.returns
returns c = expressions_read
