use Rattle.annotation_words.proofs.OverLeaves.{annotations_closed}
use Rattle.annotation_words.proofs.laws.annotations_are_closed.Goals as goal

pub returns : goal.returns
returns c = annotations_closed
