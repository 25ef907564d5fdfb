use Rattle.walk_frames.specs.View.{facts_in, shape_in}
use Rattle.walk_frames.proofs.Given.{body_same}
use Rattle.walk_frames.proofs.readings.body_labels.Goals as goal

pub returns : goal.returns
returns c k texts a =
    body_same (facts_in c.args.frame) (shape_in c.args.frame k) texts.called (texts.binders a) _ _ _ _ _ _ c.slots_at-now.ensures c.slots_at-before.ensures c.slots_at-entered.ensures
