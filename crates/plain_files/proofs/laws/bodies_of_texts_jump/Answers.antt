use Rattle.plain_files.proofs.Whole.{bodies_of_texts_jump}
use Rattle.plain_files.proofs.laws.bodies_of_texts_jump.Goals as goal

pub returns : goal.returns
returns c = bodies_of_texts_jump
