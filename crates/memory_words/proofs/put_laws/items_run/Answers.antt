use Rattle.memory_words.proofs.Ends.{items_run_well}
use Rattle.memory_words.proofs.put_laws.items_run.Goals as goal

pub returns : goal.returns
returns c = items_run_well
