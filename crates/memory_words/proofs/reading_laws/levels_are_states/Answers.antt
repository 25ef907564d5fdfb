use Rattle.memory_words.proofs.Levels.{levels_are_states}
use Rattle.memory_words.proofs.reading_laws.levels_are_states.Goals as goal

pub returns : goal.returns
returns c = levels_are_states
