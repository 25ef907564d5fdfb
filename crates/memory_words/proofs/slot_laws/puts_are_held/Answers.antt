use Rattle.memory_words.proofs.slot_laws.puts_are_held.Goals as goal
use Rattle.memory_words.proofs.Holding as holding

pub returns : goal.returns
returns c = holding.puts_are_held
