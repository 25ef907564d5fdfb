use Rattle.typed_annotations.proofs.Reading.{callees_read}
use Rattle.typed_annotations.proofs.laws.callees_read.Goals as goal

pub returns : goal.returns
returns c = callees_read
