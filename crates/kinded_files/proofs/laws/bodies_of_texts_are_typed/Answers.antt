use Rattle.kinded_files.proofs.Whole.{bodies_of_texts_are_typed}
use Rattle.kinded_files.proofs.laws.bodies_of_texts_are_typed.Goals as goal

pub returns : goal.returns
returns c = bodies_of_texts_are_typed
