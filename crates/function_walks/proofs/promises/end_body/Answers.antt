use Rattle.std.proofs.Common.{false, refl, sym, subst}
use Rattle.c_runs.specs.Operators.{noreturn}
use Rattle.program_steps.specs.Functions.{ending}
use Rattle.program_steps.specs.Stops.{undefined_place}
use Rattle.program_steps.specs.Words.{check}
use Rattle.qed_terms.proofs.Equations.{formula_tree-False}
use Rattle.qed_terms.specs.Tree.{false_tree}
use Rattle.step_walks.proofs.Walking.{halt_walks, seq_goes}
use Rattle.step_walks.specs.View.{view_state}
use Rattle.step_walks.specs.Walks.{Walks}
use Rattle.walk_frames.specs.View.{facts_in, shape_in}
use Rattle.function_walks.proofs.promises.end_body.Goals as goal

pub returns-in_ok-ask-in-Some : goal.returns-in_ok-ask-in-Some
returns-in_ok-ask-in-Some g c first m k texts =
    let p = facts_in c.args.frame in
    let s = shape_in c.args.frame k in
    let bases = c.args.frame.bases.now in
    let asked = c.in_ok-ask-in-Some.ensures first bases (check m false_tree (undefined_place noreturn c.args.line)) refl (sym formula_tree-False) in
    subst
    (λ r. Walks bases (ending m p s texts r c.args.line) (view_state c.args.state.now) (view_state c.ask.new.state) (g.S.GoalSink.fits first c.args.sink.now) (g.S.GoalSink.fits first c.ask.new.sink) false)
    (sym c.in-Some.is) (seq_goes asked halt_walks)
