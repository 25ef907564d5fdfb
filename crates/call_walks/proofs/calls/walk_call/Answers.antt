use Rattle.std.proofs.Common.{◌≡◌, List, false, sym, subst}
use Rattle.typed_prog.specs.Tree.{values_of}
use Rattle.typed_prog.specs.View.{view_values}
use Rattle.program_trees.specs.View.{view_contract}
use Rattle.checked_trees.specs.View.{view_goal}
use Rattle.call_words.specs.Words.{call_by}
use Rattle.call_walks.specs.View.{functions_in}
use Rattle.step_walks.proofs.Walking.{halt_walks}
use Rattle.step_walks.specs.View.{view_state}
use Rattle.step_walks.specs.Walks.{Held, Walks, states}
use Rattle.walk_frames.specs.View.{facts_in, shape_in, variables_in, view_point}
use Rattle.call_walks.proofs.calls.walk_call.Goals as goal

pub returns-in-None : goal.returns-in-None
returns-in-None g c first m k os cs good fine =
    let old = view_state c.args.state.now in
    let fit = g.S.GoalSink.fits first c.args.sink.now in
    subst (λ o. Walks c.args.frame.bases.now (call_by m (facts_in c.args.frame) (shape_in c.args.frame k) (g.T.Texts.text c.args.texts.now) (view_contract c.args.frame.contract.now) (functions_in c.args.functions.now) (view_point c.args.frame os c.args.point) (view_goal c.args.to.now) c.args.function c.args.line o (values_of (view_values c.args.values.now))) old old fit fit false)
    c.in-None.ensures halt_walks

pub returns-in_ok-goes-in-Some : goal.returns-in_ok-goes-in-Some
returns-in_ok-goes-in-Some g c first m k os cs good fine =
    subst (λ o. Walks c.args.frame.bases.now (call_by m (facts_in c.args.frame) (shape_in c.args.frame k) (g.T.Texts.text c.args.texts.now) (view_contract c.args.frame.contract.now) (functions_in c.args.functions.now) (view_point c.args.frame os c.args.point) (view_goal c.args.to.now) c.args.function c.args.line o (values_of (view_values c.args.values.now))) (view_state c.args.state.now) (view_state c.walk_found.new.state) (g.S.GoalSink.fits first c.args.sink.now) (g.S.GoalSink.fits first c.walk_found.new.sink) c.in_ok-goes-in-Some.goes)
    c.in-Some.ensures (c.in_ok-goes-in-Some.ensures first m k os (functions_in c.args.functions.now) good fine)
