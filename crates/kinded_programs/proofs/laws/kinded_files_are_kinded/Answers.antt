use Rattle.kinded_programs.proofs.Whole.{kinded_files_are_kinded}
use Rattle.kinded_programs.proofs.laws.kinded_files_are_kinded.Goals as goal

pub returns : goal.returns
returns c = kinded_files_are_kinded
