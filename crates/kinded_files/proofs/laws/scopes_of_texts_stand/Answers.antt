use Rattle.kinded_files.proofs.Whole.{scopes_of_texts_stand}
use Rattle.kinded_files.proofs.laws.scopes_of_texts_stand.Goals as goal

pub returns : goal.returns
returns c = scopes_of_texts_stand
