use Rattle.name_table.proofs.Hiding.{declarations_hide}
use Rattle.name_table.proofs.laws.declarations_hide.Goals as goal

pub returns : goal.returns
returns g c = declarations_hide
