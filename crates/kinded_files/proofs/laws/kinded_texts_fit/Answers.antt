use Rattle.kinded_files.proofs.Whole.{kinded_texts_fit}
use Rattle.kinded_files.proofs.laws.kinded_texts_fit.Goals as goal

pub returns : goal.returns
returns c = kinded_texts_fit
