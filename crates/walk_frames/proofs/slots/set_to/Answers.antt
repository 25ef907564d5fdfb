use Rattle.qed_terms.specs.View.{term_tree}
use Rattle.walk_frames.proofs.Moving.{variable_set}
use Rattle.walk_frames.proofs.slots.set_to.Goals as goal

pub returns : goal.returns
returns c m bases t gs e =
    variable_set m c.args.variable c.in_ok-value_slot.field-0 c.in_ok-flag_slot.field-0 t (term_tree c.args.value) (term_tree c.number.result) c.in_ok-value_slot.ensures c.in_ok-flag_slot.ensures e c.number.ensures
    c.in_ok-set.ensures c.in_ok-set-2.ensures
