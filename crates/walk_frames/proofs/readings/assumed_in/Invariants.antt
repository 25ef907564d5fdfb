use Rattle.std.proofs.Common.{◌≡◌, ◌++◌, drop, map}
use Rattle.acsl_trees.specs.Tree.{view_tree}
use Rattle.program_trees.specs.View.{view_facts}
use Rattle.qed_terms.specs.View.{formula_tree}
use Rattle.walk_frames.specs.Labelled.{claimed_in}
use Rattle.walk_frames.proofs.readings.assumed_in.Given as goal

abbrev pub invariant-loop-tree : goal.invariant-loop-tree
invariant-loop-tree g l =
    map formula_tree l.parts ++ map (λ t. claimed_in (view_facts l.facts) (g.T.Texts.text l.texts) l.labels (view_tree t)) (drop l.tree-index l.trees)
    ≡ map (λ t. claimed_in (view_facts l.facts) (g.T.Texts.text l.texts) l.labels (view_tree t)) l.trees
