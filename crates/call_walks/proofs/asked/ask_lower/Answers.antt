use Rattle.std.proofs.Common.{◌≡◌, ℕ, suc, Bool, List, map, refl, ap, ◌∙◌}
use Rattle.std.specs.Option.{option_map}
use Rattle.acsl_trees.specs.Tree as acsl
use Rattle.qed_terms.specs.View.{formula_tree, term_tree}
use Rattle.checked_trees.specs.View.{view_checked_function}
use Rattle.program_trees.specs.View.{view_contract, view_facts}
use Rattle.walk_frames.specs.Labelled.{reading_in}
use Rattle.call_walks.specs.View.{entered_over, returned_over, arguments_over}
use Rattle.call_walks.proofs.Said.{all_closed, all_filled}
use Rattle.call_walks.proofs.Callees.{entered_sees, returned_sees}
use Rattle.step_walks.specs.View.{view_state}
use Rattle.step_walks.specs.Walks.{Held, Walks, states}
use Rattle.walk_frames.specs.View.{facts_in, shape_in, variables_in, view_point}
use Rattle.acsl_encode.specs.Encode.{term_of}
use Rattle.program_steps.specs.Leaves.{fill}
use Rattle.program_steps.specs.Terms.{entry_reading}
use Rattle.call_words.specs.Words.{lower_by}
use Rattle.walk_frames.specs.Labelled.{number_in}
use Rattle.call_walks.specs.Claimed.{lower_in}
use Rattle.call_walks.proofs.Demands.{lower_said}
use Rattle.call_walks.proofs.Calling.{asked_at}
use Rattle.call_walks.proofs.asked.ask_lower.Goals as goal

pub returns : goal.returns
returns g c first m k es good are =
    let p = facts_in c.args.frame in
    let s = shape_in c.args.frame k in
    let tx = g.T.Texts.text c.args.texts.now in
    let f = view_checked_function c.args.callee.now in
    let ss = states (view_state c.args.state.now) in
    let ts = map term_tree c.args.arguments.now in
    let read = λ (a : acsl.Tree). c.entered-labels.ensures p tx a ∙ ap (λ file. entered_over p tx f.variables file ts a) c.slots_at.ensures in
    let sees = entered_sees p s tx f es good ss ss ts are 0 refl read in
    let caller = (view_contract c.args.frame.contract.now).decreases in
    let together = p.in_cluster c.args.frame.number c.args.function in
    let word = lower_by p s tx f es (suc c.args.point.entry) together caller f.contract.decreases in
    let over = λ (l : ℕ) (b : Bool). lower_in (λ (a : acsl.Tree). option_map (fill ss) (term_of (entry_reading p s tx l a) a)) (number_in p tx c.entered-labels.result) b caller f.contract.decreases in
    let said = lower_said p s tx ss f es c.entered-labels.result sees (suc c.args.point.entry) together caller f.contract.decreases in
    asked_at m word c.broken_place.ensures
    (c.in_ok-ask_all.ensures first m c.args.frame.bases.now word (all_closed said)
    (c.in_ok-formulas.ensures k ∙ (λ i. over (c.in_ok-level.ensures i) (c.are_in_cluster-in_cluster.ensures i)) ∙ all_filled said))
