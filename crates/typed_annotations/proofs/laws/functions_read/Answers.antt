use Rattle.typed_annotations.proofs.Reading.{functions_read}
use Rattle.typed_annotations.proofs.laws.functions_read.Goals as goal

pub returns : goal.returns
returns c = functions_read
