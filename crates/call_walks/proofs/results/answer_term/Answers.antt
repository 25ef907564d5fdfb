use Rattle.std.proofs.Common.{rules, ◌≡◌, List, map, sym, ap, ◌∙◌}
use Rattle.qed_terms.specs.View.{term_tree}
use Rattle.plain_states.specs.Slots.{answer_slot}
use Rattle.step_walks.specs.View.{view_state}
use Rattle.value_words.specs.OverSlots.{slot_term}
use Rattle.walk_frames.specs.View.{facts_in, shape_in}
use Rattle.call_walks.proofs.Receiving.{answer_filled}
use Rattle.call_walks.proofs.results.answer_term.Goals as goal

pub returns-in_ok-made-in-Some : goal.returns-in_ok-made-in-Some
returns-in_ok-made-in-Some c m k texts ct functions =
    let slice : c.as_slice.result.now ≡ c.args.state.now.world.slots.items = search (rules, c.as_slice.ensures.value) in
    answer_filled m (facts_in c.args.frame) (shape_in c.args.frame k) texts ct functions (view_state c.args.state.now).world.slots (view_state c.args.state.now).olds c.args.result_kind c.in-Some.field-0
    c.in_ok-slot-in-Some.slot (term_tree c.in_ok-made-in-Some.made) c.in-Some.is (c.in_ok-slot-in-Some.ensures ∙ ap answer_slot c.sizes_in.ensures)
    (c.in_ok-made-in-Some.ensures ∙ ap (λ ts. slot_term (map term_tree ts) c.in_ok-slot-in-Some.slot) slice)
