use Rattle.std.proofs.Common.{◌≡◌, IfOk, refl, subst}
use Rattle.std.specs.Option.{option_map}
use Rattle.acsl_trees.specs.Tree.{view_tree}
use Rattle.qed_terms.specs.View.{term_tree}
use Rattle.step_walks.specs.View.{view_state}
use Rattle.step_walks.specs.Walks.{states}
use Rattle.walk_frames.specs.Labelled.{number_in, reading_in}
use Rattle.walk_frames.specs.View.{facts_in, shape_in}
use Rattle.walk_frames.proofs.Over.{number_made}
use Rattle.walk_frames.proofs.claims.number_at.Goals as goal

pub returns : goal.returns
returns g c k =
    let p = facts_in c.args.frame in
    let s = shape_in c.args.frame k in
    let tx = g.T.Texts.text c.args.texts.now in
    let ss = states (view_state c.args.state.now) in
    let labels = c.body_labels-labels.result in
    let a = view_tree c.args.tree.now in
    subst (λ u. IfOk c.number_in.result (λ made. option_map term_tree made ≡ u)) (number_made p s tx ss c.args.here c.args.entry c.args.loop_entry (reading_in p tx labels) a (number_in p tx labels a) (λ b. c.body_labels-labels.ensures k tx b) refl) c.number_in.ensures
