use Rattle.memory_words.proofs.Contracts.{contracts_see}
use Rattle.memory_words.proofs.reading_laws.contracts_see.Goals as goal

pub returns : goal.returns
returns c = contracts_see
