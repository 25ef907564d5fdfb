use Rattle.memory_words.proofs.PutStanding.{locals_are_put}
use Rattle.memory_words.proofs.put_laws.locals_are_put.Goals as goal

pub returns : goal.returns
returns c = locals_are_put
