use Rattle.acsl_trees.specs.Tree.{view_tree}
use Rattle.qed_terms.specs.View.{formula_tree}
use Rattle.step_walks.specs.View.{view_place, view_state}
use Rattle.step_walks.specs.Walks.{states}
use Rattle.walk_frames.specs.View.{facts_in, shape_in}
use Rattle.loop_walks.specs.Parts.{invariant_place}
use Rattle.loop_walks.proofs.Checks.{claim_written}
use Rattle.loop_walks.proofs.ends.invariant.Goals as goal

pub returns : goal.returns
returns g c m k =
    claim_written m (states (view_state c.args.state.now)) (facts_in c.args.frame) (shape_in c.args.frame k) (g.T.Texts.text c.args.texts.now) 0 c.args.entry c.args.loop_entry
    (view_tree c.args.claim.now.what) (formula_tree c.in_ok-formula.formula) (invariant_place c.args.is_kept c.args.claim.now.line) (view_place c.place_of-place.result) c.place_of-place.ensures
    (c.in_ok-formula.ensures k)
