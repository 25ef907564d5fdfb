use Rattle.std.proofs.Common.{◌++◌, ◌∷◌, [], map, ap, ◌∙◌}
use Rattle.acsl_trees.specs.Tree.{view_tree}
use Rattle.program_trees.specs.View.{view_facts}
use Rattle.qed_terms.specs.View.{formula_tree}
use Rattle.walk_frames.specs.Labelled.{claimed_in}
use Rattle.walk_frames.proofs.Given.{one_gathered, seen_push}
use Rattle.walk_frames.proofs.readings.assumed_in.Goals as goal

pub loop-tree-preserved : goal.loop-tree-preserved
loop-tree-preserved g c =
    let parts = c.loop-tree.parts in
    let pushed = ap (map formula_tree) c.in_ok-push.ensures.ok ∙ seen_push parts c.in_ok-part.part ∙ ap (λ t. map formula_tree parts ++ t ∷ []) c.in_ok-part.ensures in
    one_gathered (λ t. claimed_in (view_facts c.args.facts.now) (g.T.Texts.text c.args.texts.now) c.args.labels (view_tree t)) c.args.trees.now c.loop-tree.tree-index c.tree-item.result (map formula_tree parts)
    (map formula_tree c.push.new.self) _ c.loop-tree-test.true c.tree-item.is c.loop-tree.invariant pushed
