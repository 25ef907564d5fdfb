use Rattle.same_memories.proofs.Terms.{terms_dont_tell}
use Rattle.same_memories.proofs.laws.terms_dont_tell.Goals as goal

pub returns : goal.returns
returns c = terms_dont_tell
