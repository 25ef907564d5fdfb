use Rattle.call_words.proofs.laws.calls_run.Goals as goal
use Rattle.call_words.proofs.Calls as proof

pub returns : goal.returns
returns c = proof.calls_run
