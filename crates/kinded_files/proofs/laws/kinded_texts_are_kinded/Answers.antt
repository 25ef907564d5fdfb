use Rattle.kinded_files.proofs.Whole.{kinded_texts_are_kinded}
use Rattle.kinded_files.proofs.laws.kinded_texts_are_kinded.Goals as goal

pub returns : goal.returns
returns c = kinded_texts_are_kinded
