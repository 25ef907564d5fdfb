use Rattle.std.proofs.Common.{◌≡◌, None, drop}
use Rattle.std.specs.Option.{option_map}
use Rattle.acsl_trees.specs.Tree.{view_tree}
use Rattle.acsl_preds.specs.Ranges as spec
use Rattle.acsl_preds.proofs.ranges.kept.Given as goal

abbrev pub invariant-loop-i : goal.invariant-loop-i
invariant-loop-i l = spec.kept l.overs l.i (option_map view_tree l.found) (spec.pointed (drop l.i l.conjuncts)) ≡ spec.kept l.overs 0 None (spec.pointed l.conjuncts)
