use Rattle.std.proofs.Common.{◌≡◌, List, sym, ap, ◌∙◌}
use Rattle.acsl_trees.specs.Tree as acsl
use Rattle.acsl_trees.specs.Tree.{view_trees}
use Rattle.program_trees.specs.View.{view_behavior, view_contract, view_facts}
use Rattle.program_steps.specs.Leaves.{fill}
use Rattle.program_steps.specs.Terms.{assumed_tree, entry_reading}
use Rattle.step_walks.specs.View.{view_state}
use Rattle.step_walks.specs.Walks.{states}
use Rattle.walk_frames.specs.View.{facts_in, shape_in, view_force}
use Rattle.call_walks.specs.Sets.{inclusions}
use Rattle.call_walks.proofs.sets.within_force.Goals as goal

pub returns-in_ok-made-in-OfFunction : goal.returns-in_ok-made-in-OfFunction
returns-in_ok-made-in-OfFunction g c k =
    c.in_ok-made-in-OfFunction.ensures k
    ∙ ap (λ f. inclusions (facts_in c.args.frame) (g.T.Texts.text c.args.texts.now) c.args.entered (view_contract c.args.contract.now) (λ (as_ : List acsl.Tree). fill (states (view_state c.args.state.now)) (assumed_tree (facts_in c.args.frame) (shape_in c.args.frame k) (g.T.Texts.text c.args.texts.now) (entry_reading (facts_in c.args.frame) (shape_in c.args.frame k) (g.T.Texts.text c.args.texts.now) c.args.level) as_)) (view_contract c.args.frame.contract.now) (view_force f)) (sym c.in-OfFunction.is)
