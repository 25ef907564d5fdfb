use Rattle.name_table.proofs.Hiding.{meanings_are_innermost}
use Rattle.name_table.proofs.laws.meanings_are_innermost.Goals as goal

pub returns : goal.returns
returns g c = meanings_are_innermost
