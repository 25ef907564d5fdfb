use Rattle.memory_words.proofs.Worlds.{annotations_read}
use Rattle.memory_words.proofs.reading_laws.annotations_read.Goals as goal

pub returns : goal.returns
returns c = annotations_read
