use Rattle.annotation_words.proofs.OverLeaves.{annotations_filled}
use Rattle.annotation_words.proofs.laws.annotations_are_filled.Goals as goal

pub returns : goal.returns
returns c = annotations_filled
