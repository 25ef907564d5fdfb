use Rattle.name_table.proofs.Declaring.{declarations_add}
use Rattle.name_table.proofs.laws.declarations_add.Goals as goal

pub returns : goal.returns
returns g c = declarations_add
