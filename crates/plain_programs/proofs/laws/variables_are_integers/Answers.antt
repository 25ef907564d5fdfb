use Rattle.plain_programs.proofs.Variables.{variables_are_integers}
use Rattle.plain_programs.proofs.laws.variables_are_integers.Goals as goal

pub returns : goal.returns
returns c = variables_are_integers
