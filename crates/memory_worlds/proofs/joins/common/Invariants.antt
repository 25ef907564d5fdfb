use Rattle.std.proofs.Common.{◌≡◌, ◌≤◌, ◌+◌, ◌-◌, map, drop, length}
use Rattle.qed_terms.specs.View.{formula_tree}
use Rattle.walk_steps.specs.Join.{split}
use Rattle.memory_worlds.proofs.joins.common.Given as goal

-- those so far, and those that are still to come
abbrev pub invariant-loop-at : goal.invariant-loop-at
invariant-loop-at l = record {
  so_far : l.at + length (split (map formula_tree (drop l.at l.left)) (map formula_tree (drop l.at l.right))).front ≡ length (split (map formula_tree l.left) (map formula_tree l.right)).front;
  in_left : l.at ≤ length l.left;
  in_right : l.at ≤ length l.right;
}

abbrev pub decreases-loop-at : goal.decreases-loop-at
decreases-loop-at l = length l.left - l.at
