use Rattle.std.proofs.Common.{◌≡◌, ◌≤◌, take, length}
use Rattle.acsl_trees.specs.Tree.{view_tree}
use Rattle.acsl_preds.specs.Ranges as spec
use Rattle.acsl_preds.proofs.ranges.over_all.Given as goal

-- what is left goes around what is made
abbrev pub invariant-loop-left : goal.invariant-loop-left
invariant-loop-left l = record {
  whole : spec.over_all l.place l.for_all (spec.pointed l.conjuncts) (take l.left l.overs) (view_tree l.tree) ≡ spec.over_all l.place l.for_all (spec.pointed l.conjuncts) l.overs (view_tree l.initial.tree);
  within : l.left ≤ length l.overs;
}

abbrev pub decreases-loop-left : goal.decreases-loop-left
decreases-loop-left l = l.left
