use Rattle.std.proofs.Common.{◌≡◌, IfOk, refl, subst}
use Rattle.acsl_trees.specs.Tree.{view_trees}
use Rattle.qed_terms.specs.View.{formula_tree}
use Rattle.step_walks.specs.View.{view_state}
use Rattle.step_walks.specs.Walks.{states}
use Rattle.walk_frames.specs.Labelled.{assumed_in, reading_in}
use Rattle.walk_frames.specs.View.{facts_in, shape_in}
use Rattle.walk_frames.proofs.Over.{assumed_made}
use Rattle.walk_frames.proofs.claims.assumed_at.Goals as goal

pub returns : goal.returns
returns g c k =
    let p = facts_in c.args.frame in
    let s = shape_in c.args.frame k in
    let tx = g.T.Texts.text c.args.texts.now in
    let ss = states (view_state c.args.state.now) in
    let labels = c.body_labels-labels.result in
    let as_ = view_trees c.args.trees.now in
    subst (λ u. IfOk c.assumed_in.result (λ made. formula_tree made ≡ u)) (assumed_made p s tx ss c.args.level (reading_in p tx labels) as_ (assumed_in p tx labels as_) (λ b. c.body_labels-labels.ensures k tx b) refl) c.assumed_in.ensures
