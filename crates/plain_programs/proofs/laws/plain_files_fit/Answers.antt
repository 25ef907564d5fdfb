use Rattle.plain_programs.proofs.Whole.{plain_files_fit}
use Rattle.plain_programs.proofs.laws.plain_files_fit.Goals as goal

pub returns : goal.returns
returns c = plain_files_fit
