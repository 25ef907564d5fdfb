use Rattle.std.proofs.Common.{◌≡◌, ◌++◌, List, Option, map, sym, ap, ◌∙◌}
use Rattle.std.specs.Option.{option_map}
use Rattle.acsl_trees.specs.Tree as acsl
use Rattle.acsl_trees.specs.Tree.{view_trees}
use Rattle.qed_terms.specs.View.{formula_tree}
use Rattle.program_trees.specs.View.{view_behavior, view_contract, view_facts}
use Rattle.program_steps.specs.Leaves.{fill}
use Rattle.program_steps.specs.Terms.{assumed_tree, entry_reading}
use Rattle.step_walks.specs.View.{view_state}
use Rattle.step_walks.specs.Walks.{states}
use Rattle.walk_frames.specs.View.{facts_in, shape_in}
use Rattle.call_walks.specs.Sets.{inclusion_under}
use Rattle.call_walks.proofs.Parts.{pushed}
use Rattle.call_walks.proofs.sets.push_inclusion.Goals as goal

pub returns : goal.returns
returns g c k =
    pushed c.args.made.now c.push.new.self c.in_ok-formula.formula _ c.in_ok-push.ensures.ok (c.in_ok-formula.ensures k)
    ∙ ap (λ o. map formula_tree c.args.made.now ++ inclusion_under (facts_in c.args.frame) (g.T.Texts.text c.args.texts.now) c.args.entered (view_contract c.args.contract.now) (λ (as_ : List acsl.Tree). fill (states (view_state c.args.state.now)) (assumed_tree (facts_in c.args.frame) (shape_in c.args.frame k) (g.T.Texts.text c.args.texts.now) (entry_reading (facts_in c.args.frame) (shape_in c.args.frame k) (g.T.Texts.text c.args.texts.now) c.args.level) as_)) c.args.is_plain (view_behavior c.args.behavior.now).assumes (option_map view_trees o))
    (sym c.in-Some.is)
