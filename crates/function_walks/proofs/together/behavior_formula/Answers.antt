use Rattle.std.proofs.Common.{rules, ◌≡◌, IfOk, subst}
use Rattle.acsl_trees.specs.Tree.{view_trees}
use Rattle.program_steps.specs.Leaves.{fill}
use Rattle.program_steps.specs.Terms.{assumed_tree, entry_reading}
use Rattle.qed_terms.specs.View.{formula_tree}
use Rattle.step_walks.specs.View.{view_state}
use Rattle.step_walks.specs.Walks.{states}
use Rattle.walk_frames.specs.View.{facts_in, shape_in}
use Rattle.function_walks.proofs.together.behavior_formula.Goals as goal

pub returns : goal.returns
returns g c m k =
    let p = facts_in c.args.frame in
    let s = shape_in c.args.frame k in
    let texts = g.T.Texts.text c.args.texts.now in
    let ss = states (view_state c.args.state.now) in
    let slice : c.as_slice.result.now ≡ c.args.behavior.now.assumes = search (rules, c.as_slice.ensures) in
    subst (λ ts. IfOk c.assumed_at.result (λ made. formula_tree made ≡ fill ss (assumed_tree p s texts (entry_reading p s texts 1) (view_trees ts)))) slice (c.assumed_at.ensures k)
