use Rattle.core_trees.specs.View.{view_claim}
use Rattle.program_trees.specs.View.{view_behavior}
use Rattle.qed_terms.specs.View.{formula_tree}
use Rattle.step_walks.specs.View.{view_place, view_state}
use Rattle.step_walks.specs.Walks.{states}
use Rattle.walk_frames.specs.View.{facts_in, shape_in}
use Rattle.function_walks.proofs.Returning.{promise_is}
use Rattle.function_walks.proofs.promises.promise_asked.Goals as goal

pub returns : goal.returns
returns g c m k =
    let p = facts_in c.args.frame in
    let s = shape_in c.args.frame k in
    let texts = g.T.Texts.text c.args.texts.now in
    promise_is p s texts (states (view_state c.args.state.now)) m c.args.is_plain (view_behavior c.args.behavior.now) (view_claim c.args.claim.now) (view_place c.broken_place-place.result)
    (formula_tree c.in_ok-promise.promise) (formula_tree c.in_ok-under.under) c.broken_place-place.ensures (c.in_ok-promise.ensures k) (c.in_ok-under.ensures k)
