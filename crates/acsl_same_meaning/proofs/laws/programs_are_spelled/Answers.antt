use Rattle.acsl_same_meaning.proofs.Grammar.{programs_are_spelled}
use Rattle.acsl_same_meaning.proofs.laws.programs_are_spelled.Goals as goal

pub returns : goal.returns
returns c = programs_are_spelled
