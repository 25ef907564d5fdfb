use Rattle.memory_words.proofs.Valued.{ways_lead}
use Rattle.memory_words.proofs.put_laws.ways_lead.Goals as goal

pub returns : goal.returns
returns c = ways_lead
