use Rattle.acsl_encode.proofs.Told.{reads_are_given}
use Rattle.acsl_encode.proofs.laws.reads_are_given.Goals as goal

pub returns : goal.returns
returns c = reads_are_given
