use Rattle.program_steps.proofs.laws.forms_are_good.Goals as goal
use Rattle.program_steps.proofs.Filling as filling

pub returns : goal.returns
returns c = filling.forms_are_good
