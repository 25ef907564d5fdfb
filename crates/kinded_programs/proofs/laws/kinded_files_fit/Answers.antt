use Rattle.kinded_programs.proofs.Whole.{kinded_files_fit}
use Rattle.kinded_programs.proofs.laws.kinded_files_fit.Goals as goal

pub returns : goal.returns
returns c = kinded_files_fit
