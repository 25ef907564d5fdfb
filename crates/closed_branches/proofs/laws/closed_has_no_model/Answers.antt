use Rattle.closed_branches.proofs.Reasons.{no_model}
use Rattle.closed_branches.proofs.laws.closed_has_no_model.Goals as goal

pub returns : goal.returns
returns g c = no_model g.T.LiteralTest.refuted g.met.T.LiteralTest.sound
