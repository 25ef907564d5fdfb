use Rattle.std.proofs.Common.{◌≡◌, List, map, refl, ap, ◌∙◌}
use Rattle.acsl_trees.specs.Tree as acsl
use Rattle.qed_terms.specs.View.{formula_tree, term_tree}
use Rattle.checked_trees.specs.View.{view_checked_function}
use Rattle.program_trees.specs.View.{view_contract, view_facts}
use Rattle.walk_frames.specs.Labelled.{reading_in}
use Rattle.call_walks.specs.View.{entered_over, returned_over, arguments_over}
use Rattle.call_walks.proofs.Said.{all_closed, all_filled}
use Rattle.call_walks.proofs.Callees.{entered_sees, returned_sees}
use Rattle.step_walks.specs.View.{view_state}
use Rattle.step_walks.specs.Walks.{Held, Walks, states}
use Rattle.walk_frames.specs.View.{facts_in, shape_in, variables_in, view_point}
use Rattle.plain_states.specs.Slots.{answer_slot}
use Rattle.call_words.specs.Words.{call_promises}
use Rattle.call_walks.proofs.Demands.{promised_said}
use Rattle.call_walks.proofs.behind.know_promised.Goals as goal

pub returns : goal.returns
returns g c m k es gs good are =
    let p = facts_in c.args.frame in
    let s = shape_in c.args.frame k in
    let tx = g.T.Texts.text c.args.texts.now in
    let f = view_checked_function c.args.callee.now in
    let ss = states (view_state c.args.state.now) in
    let ts = map term_tree c.args.arguments.now in
    let before = (view_state c.args.state.now).olds in
    let slot = c.in_ok-answer.ensures ∙ ap answer_slot c.sizes_in.ensures in
    let read = λ (a : acsl.Tree). c.entered-entry.ensures p tx a ∙ ap (λ file. entered_over p tx f.variables file ts a) c.slots_at-before.ensures in
    let back = λ (a : acsl.Tree). c.returned-back.ensures p tx a ∙ (λ i. returned_over p tx f.variables (c.kind_given.ensures i) (slot i) (c.slots_at-now.ensures i) (c.slots_at-before.ensures i) ts a) in
    let sees = entered_sees p s tx f es good ss before ts are 1 refl read in
    let seen = returned_sees p s tx f es good ss before ts are refl back in
    let said = promised_said p s tx ss f es c.entered-entry.result sees c.returned-back.result seen in
    c.in_ok-know_all.ensures m c.args.frame.bases.now (call_promises p s tx f es) gs (all_closed said) (c.in_ok-formulas.ensures ∙ all_filled said)
