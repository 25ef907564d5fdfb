use Rattle.std.proofs.Common.{rules, ◌≡◌, List, true, sym, ap, ◌∙◌, subst}
use Rattle.typed_prog.specs.Tree.{values_of}
use Rattle.typed_prog.specs.View.{view_values}
use Rattle.qed_terms.specs.View.{term_tree}
use Rattle.check_lists.specs.View.{view_checks}
use Rattle.c_runs.specs.Tree as core
use Rattle.checked_trees.specs.View.{view_goal}
use Rattle.plain_states.specs.Slots.{temp_slot}
use Rattle.program_steps.specs.Leaves.{number}
use Rattle.program_trees.specs.View.{view_contract}
use Rattle.walk_steps.specs.Walk.{Goal}
use Rattle.value_words.specs.Laws.{AreClosed}
use Rattle.walk_frames.specs.Words.{GoalClosed}
use Rattle.call_words.specs.Words.{answer_term, received}
use Rattle.step_walks.specs.Walks.{now_set}
use Rattle.step_walks.proofs.Walking.{set_walks}
use Rattle.walk_frames.proofs.Moving.{moved}
use Rattle.step_walks.specs.View.{view_state}
use Rattle.step_walks.specs.Walks.{Held, Walks, states}
use Rattle.walk_frames.specs.View.{facts_in, shape_in, variables_in, view_point}
use Rattle.call_walks.proofs.results.receive.Goals as goal

pub returns-in_ok-set-in-Temporary : goal.returns-in_ok-set-in-Temporary
returns-in_ok-set-in-Temporary g c first m k os functions good =
    let p = facts_in c.args.frame in
    let s = shape_in c.args.frame k in
    let tx = g.T.Texts.text c.args.texts.now in
    let ct = view_contract c.args.frame.contract.now in
    let u = answer_term m p s tx ct functions c.args.result_kind in
    let old = view_state c.args.state.now in
    let slot = c.in_ok-temp_slot-in-Temporary.ensures ∙ ap (λ z. temp_slot z c.in-Temporary.number) c.sizes_in.ensures in
    subst (λ d. Walks c.args.frame.bases.now (received m p s tx ct functions (view_point c.args.frame os c.args.point) (view_goal d) u) old (view_state c.set.new.state) (g.S.GoalSink.fits first c.args.sink.now) (g.S.GoalSink.fits first c.args.sink.now) true)
    (sym c.in-Temporary.is)
    (set_walks _ (number m u) (term_tree c.in_ok-value.value) (c.in_ok-value.ensures m k tx ct functions) (c.in_ok-set-in-Temporary.ensures ∙ ap (λ i. now_set old i (term_tree c.in_ok-value.value)) slot))

pub returns-in_ok-goes-in-Place : goal.returns-in_ok-goes-in-Place
returns-in_ok-goes-in-Place g c first m k os functions good =
    let p = facts_in c.args.frame in
    let s = shape_in c.args.frame k in
    let tx = g.T.Texts.text c.args.texts.now in
    let ct = view_contract c.args.frame.contract.now in
    let u = answer_term m p s tx ct functions c.args.result_kind in
    let slice : c.in-Place.values.now ≡ c.as_slice-values.result.now = search (rules, c.as_slice-values.ensures) in
    let fine : AreClosed p s (values_of (view_values c.in-Place.values.now)) = subst (λ d. GoalClosed p s (view_goal d)) c.in-Place.is good in
    subst (λ d. Walks c.args.frame.bases.now (received m p s tx ct functions (view_point c.args.frame os c.args.point) (view_goal d) u) (view_state c.args.state.now) (view_state c.receive_place.new.state) (g.S.GoalSink.fits first c.args.sink.now) (g.S.GoalSink.fits first c.receive_place.new.sink) c.in_ok-goes-in-Place.goes)
    (sym c.in-Place.is)
    (subst (λ vs. Walks c.args.frame.bases.now (received m p s tx ct functions (view_point c.args.frame os c.args.point) (core.place (view_checks c.in-Place.field-0) c.in-Place.field-1.now c.in-Place.line c.in-Place.path.now (values_of (view_values vs))) u) (view_state c.args.state.now) (view_state c.receive_place.new.state) (g.S.GoalSink.fits first c.args.sink.now) (g.S.GoalSink.fits first c.receive_place.new.sink) c.in_ok-goes-in-Place.goes) (sym slice)
    (c.in_ok-goes-in-Place.ensures first m k os functions u (subst (λ vs. AreClosed p s (values_of (view_values vs))) slice fine) (c.in_ok-value.ensures m k tx ct functions)))

pub returns-in_ok-receive_variable-in-Variable : goal.returns-in_ok-receive_variable-in-Variable
returns-in_ok-receive_variable-in-Variable g c first m k os functions good =
    let p = facts_in c.args.frame in
    let s = shape_in c.args.frame k in
    let tx = g.T.Texts.text c.args.texts.now in
    let ct = view_contract c.args.frame.contract.now in
    let u = answer_term m p s tx ct functions c.args.result_kind in
    subst (λ d. Walks c.args.frame.bases.now (received m p s tx ct functions (view_point c.args.frame os c.args.point) (view_goal d) u) (view_state c.args.state.now) (view_state c.receive_variable.new.state) (g.S.GoalSink.fits first c.args.sink.now) (g.S.GoalSink.fits first c.args.sink.now) true)
    (sym c.in-Variable.is) (moved (λ (gs : List Goal). c.in_ok-receive_variable-in-Variable.ensures m u gs (c.in_ok-value.ensures m k tx ct functions)))
