use Rattle.std.proofs.Common.{◌≡◌, ◌++◌, drop}
use Rattle.acsl_preds.specs.Ranges as spec
use Rattle.acsl_preds.proofs.ranges.+conjuncts.Given as goal

abbrev pub invariant-all_conjuncts-loop-tree : goal.invariant-all_conjuncts-loop-tree
invariant-all_conjuncts-loop-tree l =
    spec.pointed l.found.items ++ spec.conjuncts_of (drop l.tree-index l.trees) ≡ spec.pointed l.initial.found.items ++ spec.conjuncts_of l.trees
