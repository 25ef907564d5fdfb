use Rattle.std.proofs.Common.{◌≡◌, false, ◌+◌, ◌*◌}
use Rattle.qed_terms.specs.declared.head.Sort.TheVariants as sort
use Rattle.qed_terms.specs.Free.{free_among}
use Rattle.qed_terms.specs.Nodes.{node_tree}
use Rattle.qed_terms.specs.Tree.{kids_in, size}
use Rattle.qed_terms.specs.View.{term_tree, formula_tree}
use Rattle.qed_substitution.proofs.Kids.{FreeFrom}
use Rattle.qed_substitution.proofs.free.+is_free.Given as goal

abbrev pub decreases-is_free : goal.decreases-is_free
decreases-is_free l = 2 * size (node_tree l.node) + 1

abbrev pub decreases-is_free_in_kids : goal.decreases-is_free_in_kids
decreases-is_free_in_kids l = 2 * size (node_tree l.node)

abbrev pub decreases-is_free_in_range : goal.decreases-is_free_in_range
decreases-is_free_in_range l = 2 * (size (term_tree l.low.now) + size (term_tree l.high.now) + size (formula_tree l.body.now)) + 2

-- the kids from here on decide
abbrev pub invariant-is_free_in_kids-loop-at : goal.invariant-is_free_in_kids-loop-at
invariant-is_free_in_kids-loop-at l = free_among false l.name sort.Int (kids_in (node_tree l.node)) ≡ FreeFrom l.name (node_tree l.node) l.at
