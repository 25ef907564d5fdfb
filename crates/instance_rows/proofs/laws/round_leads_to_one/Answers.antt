use Rattle.instance_rows.proofs.Stated.{one_round}
use Rattle.instance_rows.proofs.laws.round_leads_to_one.Goals as goal

pub returns : goal.returns
returns c = one_round
