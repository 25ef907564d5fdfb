use Rattle.std.proofs.Common.{ap, false, subst, sym}
use Rattle.std.specs.Option.{option_map}
use Rattle.typed_prog.specs.View.{view_value}
use Rattle.step_walks.specs.View.{view_state}
use Rattle.step_walks.specs.Walks.{Walks}
use Rattle.step_walks.proofs.Walking.{exit_walks}
use Rattle.walk_frames.specs.View.{facts_in, shape_in, variables_in}
use Rattle.walk_frames.specs.Words.{GivenClosed, return_word}
use Rattle.program_walk.proofs.statements.walk_return.Goals as goal

pub returns-in_ok-leave-in-None : goal.returns-in_ok-leave-in-None
returns-in_ok-leave-in-None g c first m k closed =
    let x = c.args.frame in
    let fits = g.S.GoalSink.fits first c.args.sink.now in
    subst (λ o. Walks x.bases.now (return_word m (facts_in x) (variables_in x) x.temporaries c.args.blocks o) (view_state c.args.state.now) (view_state c.leave.new.state) fits fits false) (sym (ap (option_map view_value) c.in-None.is))
    (exit_walks c.args.blocks c.in_ok-leave-in-None.ensures)

pub returns-in_ok-goes-in-Some : goal.returns-in_ok-goes-in-Some
returns-in_ok-goes-in-Some g c first m k closed =
    let x = c.args.frame in
    let given = ap (option_map view_value) c.in-Some.is in
    subst (λ o. Walks x.bases.now (return_word m (facts_in x) (variables_in x) x.temporaries c.args.blocks o) (view_state c.args.state.now) (view_state c.walk_give.new.state) (g.S.GoalSink.fits first c.args.sink.now)
    (g.S.GoalSink.fits first c.walk_give.new.sink) c.in_ok-goes-in-Some.goes) (sym given) (c.in_ok-goes-in-Some.ensures first m k (subst (GivenClosed (facts_in x) (shape_in x k)) given closed))
