use Rattle.qed_calls.proofs.Fixed.{calls_are_fixed}
use Rattle.qed_calls.proofs.laws.calls_are_fixed.Goals as goal

pub returns : goal.returns
returns c = calls_are_fixed
