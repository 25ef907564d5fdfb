use Rattle.std.proofs.Common.{◌≡◌, ◌≤◌, ◌+◌, ◌-◌, map, drop, length}
use Rattle.memory_steps.specs.Join.{common}
use Rattle.memory_worlds.specs.View.{view_mark}
use Rattle.memory_worlds.proofs.joins.common_marks.Given as goal

-- those so far, and those that are still to come
abbrev pub invariant-loop-at : goal.invariant-loop-at
invariant-loop-at l = record {
  so_far : l.at + length (common (map view_mark (drop l.at l.left)) (map view_mark (drop l.at l.right))) ≡ length (common (map view_mark l.left) (map view_mark l.right));
  in_left : l.at ≤ length l.left;
  in_right : l.at ≤ length l.right;
}

abbrev pub decreases-loop-at : goal.decreases-loop-at
decreases-loop-at l = length l.left - l.at
