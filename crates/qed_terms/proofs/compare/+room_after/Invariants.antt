use Rattle.std.proofs.Common.{◌≡◌}
use Rattle.qed_terms.specs.Tree.{size}
use Rattle.qed_terms.specs.Nodes.{node_tree, kids_of, room_after}
use Rattle.qed_terms.proofs.Sizes.{left_for}
use Rattle.qed_terms.proofs.compare.+room_after.Given as goal

abbrev pub decreases-room_after : goal.decreases-room_after
decreases-room_after l = size (node_tree l.node)

-- what is left serves the kids to come
abbrev pub invariant-loop-at : goal.invariant-loop-at
invariant-loop-at l = room_after l.room (size (node_tree l.node)) ≡ left_for l.left (kids_of (node_tree l.node)) l.at
