use Rattle.memory_words.proofs.Storing.{globals_are_put}
use Rattle.memory_words.proofs.put_laws.globals_are_put.Goals as goal

pub returns : goal.returns
returns c = globals_are_put
