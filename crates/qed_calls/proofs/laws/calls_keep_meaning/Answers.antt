use Rattle.qed_calls.proofs.Keeps.{calls_keep}
use Rattle.qed_calls.proofs.laws.calls_keep_meaning.Goals as goal

pub returns : goal.returns
returns c = calls_keep
