use Rattle.memory_words.proofs.Branches.{branches_run}
use Rattle.memory_words.proofs.put_laws.branches_run.Goals as goal

pub returns : goal.returns
returns c = branches_run
