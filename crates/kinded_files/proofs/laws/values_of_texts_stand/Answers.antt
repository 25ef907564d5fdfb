use Rattle.kinded_files.proofs.Whole.{values_of_texts_stand}
use Rattle.kinded_files.proofs.laws.values_of_texts_stand.Goals as goal

pub returns : goal.returns
returns c = values_of_texts_stand
