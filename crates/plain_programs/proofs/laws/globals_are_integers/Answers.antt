use Rattle.plain_programs.proofs.Variables.{globals_are_integers}
use Rattle.plain_programs.proofs.laws.globals_are_integers.Goals as goal

pub returns : goal.returns
returns c = globals_are_integers
