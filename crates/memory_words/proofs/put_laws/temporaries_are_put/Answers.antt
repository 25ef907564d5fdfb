use Rattle.memory_words.proofs.PutStanding.{temporaries_are_put}
use Rattle.memory_words.proofs.put_laws.temporaries_are_put.Goals as goal

pub returns : goal.returns
returns c = temporaries_are_put
