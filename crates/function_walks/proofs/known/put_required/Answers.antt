use Rattle.std.proofs.Common.{true, map}
use Rattle.program_steps.specs.Starting.{required_trees, all_required}
use Rattle.program_trees.specs.View.{view_contract}
use Rattle.qed_terms.specs.View.{formula_tree}
use Rattle.step_walks.specs.View.{view_state}
use Rattle.step_walks.specs.Walks.{states}
use Rattle.walk_frames.specs.View.{facts_in, shape_in}
use Rattle.function_walks.proofs.Requiring.{two_behind}
use Rattle.function_walks.proofs.known.put_required.Goals as goal

pub returns : goal.returns
returns g c m k =
    let p = facts_in c.args.frame in
    let s = shape_in c.args.frame k in
    let texts = g.T.Texts.text c.args.texts.now in
    let contract = view_contract c.args.frame.contract.now in
    two_behind (states (view_state c.args.state.now)) (map formula_tree c.args.known.now.items) (map formula_tree c.put_behavior.new.known.items) (map formula_tree c.put_behaviors.new.known.items)
    (required_trees m p s texts true contract.plain) (all_required m p s texts contract.behaviors) (c.in_ok-put_behavior.ensures m k) (c.in_ok-put_behaviors.ensures m k)
