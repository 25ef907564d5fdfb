use Rattle.name_table.proofs.Hiding.{scopes_are_entered}
use Rattle.name_table.proofs.laws.scopes_are_entered.Goals as goal

pub returns : goal.returns
returns g c = scopes_are_entered
