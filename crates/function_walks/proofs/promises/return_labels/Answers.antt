use Rattle.std.proofs.Common.{ap, ◌∙◌}
use Rattle.plain_states.specs.Slots.{result_slot}
use Rattle.walk_frames.specs.View.{facts_in, shape_in}
use Rattle.function_walks.proofs.Returning.{return_same}
use Rattle.function_walks.proofs.promises.return_labels.Goals as goal

pub returns : goal.returns
returns c k texts a =
    return_same (facts_in c.args.frame) (shape_in c.args.frame k) texts.called (texts.binders a) _ _ _ _ c.in_ok-at.at _ c.slots_at-now.ensures c.slots_at-before.ensures (c.in_ok-at.ensures ∙ ap result_slot c.sizes_in.ensures) c.kind_given.ensures
