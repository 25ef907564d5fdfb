use Rattle.std.proofs.Common.{◌≡◌, List, [], ◌∷◌, length, sym, ap, ◌∙◌, subst}
use Rattle.plain_states.specs.Slots.{answer_slot}
use Rattle.walk_steps.specs.Forms.{Slots}
use Rattle.walk_steps.specs.Step.{remember, scope}
use Rattle.walk_words.specs.View.{exits_at, view_world}
use Rattle.program_trees.specs.View.{view_contract}
use Rattle.checked_trees.specs.View.{view_checked_function, view_goal}
use Rattle.call_walks.specs.Known.{known_word}
use Rattle.call_walks.specs.View.{arguments_over}
use Rattle.call_walks.proofs.Calling.{behind_goes}
use Rattle.step_walks.specs.View.{view_state}
use Rattle.step_walks.specs.Walks.{Held, Walks, states}
use Rattle.walk_frames.specs.View.{facts_in, shape_in, variables_in, view_point}
use Rattle.call_walks.proofs.calls.walk_behind.Goals as goal

pub returns : goal.returns
returns g c first m k os functions es good are fine =
    let p = facts_in c.args.frame in
    let s = shape_in c.args.frame k in
    let tx = g.T.Texts.text c.args.texts.now in
    let over = λ (ss : List Slots). arguments_over p (variables_in c.args.frame) ss es (length (view_checked_function c.args.callee.now).variables) in
    let word = known_word m p s tx (view_contract c.args.frame.contract.now) functions (view_point c.args.frame os c.args.point) (view_goal c.args.to.now) (view_checked_function c.args.callee.now) es in
    let olds = ap (λ (h : Held). h.olds) c.begin_block-outer.ensures.state ∙ ap (λ (h : Held). h.olds) c.in_ok-remember.ensures in
    let inner = c.in_ok-goes.ensures first m k os functions es good (are ∙ ap over (sym olds)) fine in
    let slot = c.in_ok-answer.ensures ∙ ap answer_slot c.sizes_in.ensures in
    subst (λ i. Walks c.args.frame.bases.now (remember (scope (i ∷ []) word)) (view_state c.args.state.now) (view_state c.forget.new.state) (g.S.GoalSink.fits first c.args.sink.now) (g.S.GoalSink.fits first c.walk_known.new.sink) c.in_ok-goes.goes) slot
    (behind_goes (c.in_ok-answer.answer ∷ []) (view_world c.in_ok-before.before) c.in_ok-remember.ensures c.in_ok-before.ensures (ap exits_at c.begin_block-outer.ensures.outer) c.begin_block-outer.ensures.state inner
    c.in_ok-end_scope.ensures c.forget.ensures)
