use Rattle.branch_changes.proofs.Stated.{keeps_models}
use Rattle.branch_changes.proofs.laws.changes_keep_models.Goals as goal

pub returns : goal.returns
returns g c = keeps_models g.R.ChangeRules.closed
