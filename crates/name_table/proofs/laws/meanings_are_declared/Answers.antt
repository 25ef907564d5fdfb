use Rattle.name_table.proofs.Declaring.{meanings_are_declared}
use Rattle.name_table.proofs.laws.meanings_are_declared.Goals as goal

pub returns : goal.returns
returns g c = meanings_are_declared
