use Rattle.std.proofs.Common.{◌≡◌, ◌≤◌, ◌+◌, ◌*◌, length}
use Rattle.qed_terms.specs.Tree.{head_of, kids_in, size}
use Rattle.qed_terms.specs.Order.{kids_cmp, starts}
use Rattle.qed_terms.specs.Nodes.{node_tree, kids_of}
use Rattle.qed_terms.proofs.Turns.{from_place}
use Rattle.qed_terms.proofs.compare.+compare.Given as goal

-- a node before its kids, and each kid is smaller
abbrev pub decreases-compare : goal.decreases-compare
decreases-compare l = 2 * size (node_tree l.left) + 1

abbrev pub decreases-compare_kids : goal.decreases-compare_kids
decreases-compare_kids l = 2 * size (node_tree l.left)

-- what is left to compare decides
abbrev pub invariant-compare_kids-loop-at : goal.invariant-compare_kids-loop-at
invariant-compare_kids-loop-at l = let t = node_tree l.left in let u = node_tree l.right in record {
  within : l.at ≤ length (kids_of u);
  rest : kids_cmp (starts (head_of t)) (starts (head_of u)) (kids_in t) (kids_in u) ≡ from_place (starts (head_of t)) (starts (head_of u)) (kids_of t) (kids_of u) l.at;
}
