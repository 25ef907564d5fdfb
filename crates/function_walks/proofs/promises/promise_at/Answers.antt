use Rattle.std.proofs.Common.{◌≡◌, IfOk, refl, subst}
use Rattle.acsl_trees.specs.Tree.{view_tree}
use Rattle.qed_terms.specs.View.{formula_tree}
use Rattle.step_walks.specs.View.{view_state}
use Rattle.step_walks.specs.Walks.{states}
use Rattle.walk_frames.specs.Labelled.{claimed_in, reading_in}
use Rattle.walk_frames.specs.View.{facts_in, shape_in}
use Rattle.function_walks.proofs.Returning.{promise_made}
use Rattle.function_walks.proofs.promises.promise_at.Goals as goal

pub returns : goal.returns
returns g c k =
    let p = facts_in c.args.frame in
    let s = shape_in c.args.frame k in
    let texts = g.T.Texts.text c.args.texts.now in
    let ss = states (view_state c.args.state.now) in
    let labels = c.in_ok-labels.labels in
    let a = view_tree c.args.tree.now in
    subst (λ u. IfOk c.claim_in.result (λ made. formula_tree made ≡ u)) (promise_made p s texts ss (reading_in p texts labels) a (claimed_in p texts labels a) (λ b. c.in_ok-labels.ensures k texts b) refl) c.claim_in.ensures
