use Rattle.plain_states.proofs.Puts.{changes_are_puts}
use Rattle.plain_states.proofs.laws.changes_are_puts.Goals as goal

pub returns : goal.returns
returns c = changes_are_puts
