use Rattle.branch_changes.proofs.Stated.{leads_to_one}
use Rattle.branch_changes.proofs.laws.changes_lead_to_one.Goals as goal

pub returns : goal.returns
returns g c = leads_to_one g.R.ChangeRules.closed
