use Rattle.std.proofs.Common.{◌≡◌, List, true, Some, sym, ap, ◌∙◌, subst}
use Rattle.plain_states.specs.Slots.{answer_slot}
use Rattle.walk_frames.specs.Words.{Still}
use Rattle.call_words.specs.Words.{answer_step, change_at}
use Rattle.step_walks.proofs.Walking.{skip_walks}
use Rattle.step_walks.specs.View.{view_state}
use Rattle.step_walks.specs.Walks.{Held, Walks, states}
use Rattle.walk_frames.specs.View.{facts_in, shape_in, variables_in, view_point}
use Rattle.call_walks.proofs.behind.change_result.Goals as goal

pub returns-in_ok-apply-in-Of : goal.returns-in_ok-apply-in-Of
returns-in_ok-apply-in-Of c m k tx ct functions gs =
    let slot = c.in_ok-slot-in-Of.ensures ∙ ap answer_slot c.sizes_in.ensures in
    subst (λ o. Walks c.args.frame.bases.now (answer_step m (facts_in c.args.frame) (shape_in c.args.frame k) tx ct functions (Some o)) (view_state c.args.state.now) (view_state c.apply.new.state) (Still gs) (Still gs) true)
    (sym c.in-Of.is) (c.in_ok-apply-in-Of.ensures _ gs (c.in_ok-changes-in-Of.ensures ∙ (λ i. change_at (slot i) (c.any_of_kind-any.ensures i))))

pub returns-in-Ptr : goal.returns-in-Ptr
returns-in-Ptr c m k tx ct functions gs =
    subst (λ o. Walks c.args.frame.bases.now (answer_step m (facts_in c.args.frame) (shape_in c.args.frame k) tx ct functions (Some o)) (view_state c.args.state.now) (view_state c.args.state.now) (Still gs) (Still gs) true)
    (sym c.in-Ptr.is) skip_walks
