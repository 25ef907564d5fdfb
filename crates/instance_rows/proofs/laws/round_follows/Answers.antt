use Rattle.instance_rows.proofs.Stated.{round_keeps}
use Rattle.instance_rows.proofs.laws.round_follows.Goals as goal

pub returns : goal.returns
returns c = round_keeps
