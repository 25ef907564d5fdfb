use Rattle.memory_words.proofs.Seeing.{bodies_see}
use Rattle.memory_words.proofs.reading_laws.bodies_see.Goals as goal

pub returns : goal.returns
returns c = bodies_see
