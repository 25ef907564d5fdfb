use Rattle.std.proofs.Common.{◌∙◌, map}
use Rattle.qed_terms.specs.View.{term_tree}
use Rattle.step_walks.specs.View.{view_state}
use Rattle.step_walks.specs.Walks.{states}
use Rattle.loop_walks.proofs.Staying.{stays_filled}
use Rattle.loop_walks.proofs.heads.stays.Goals as goal

pub returns : goal.returns
returns c =
    c.in_ok-formula.ensures
    ∙ stays_filled (states (view_state c.args.state.now)) c.args.variable c.in_ok-slot.slot (map term_tree c.slots_at.result.now) (map term_tree c.slots_at-2.result.now) (term_tree c.in_ok-now.now)
    (term_tree c.in_ok-before.before) c.in_ok-slot.ensures c.slots_at.ensures c.slots_at-2.ensures c.in_ok-now.ensures c.in_ok-before.ensures
