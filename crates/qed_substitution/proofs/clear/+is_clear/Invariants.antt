use Rattle.std.proofs.Common.{◌≡◌, ◌+◌, ◌*◌}
use Rattle.qed_terms.specs.Nodes.{node_tree}
use Rattle.qed_terms.specs.Tree.{kids_in, size}
use Rattle.qed_terms.specs.View.{term_tree, formula_tree}
use Rattle.qed_substitution.specs.Substitution.{are_clear}
use Rattle.qed_substitution.proofs.Kids.{ClearFrom}
use Rattle.qed_substitution.proofs.clear.+is_clear.Given as goal

abbrev pub decreases-is_clear : goal.decreases-is_clear
decreases-is_clear l = 2 * size (node_tree l.node) + 1

abbrev pub decreases-are_clear : goal.decreases-are_clear
decreases-are_clear l = 2 * size (node_tree l.node)

abbrev pub decreases-is_clear_range : goal.decreases-is_clear_range
decreases-is_clear_range l = 2 * (size (term_tree l.low.now) + size (term_tree l.high.now) + size (formula_tree l.body.now)) + 2

-- the kids from here on decide
abbrev pub invariant-are_clear-loop-at : goal.invariant-are_clear-loop-at
invariant-are_clear-loop-at l = are_clear l.under l.name (term_tree l.by) (kids_in (node_tree l.node)) ≡ ClearFrom l.under l.name (term_tree l.by) (node_tree l.node) l.at
