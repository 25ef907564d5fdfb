-- Sums that the program builds.
use Rattle.std.proofs.Common.{◌≡◌, ◌≤◌, List, [], ◌∷◌, map, length, refl, arith}
use Rattle.qed_terms.specs.declared.head.Head.TheVariants as h
use Rattle.qed_terms.specs.declared.head.TermOp.TheVariants as op
use Rattle.qed_terms.specs.declared.term.Term.{Term}
use Rattle.qed_terms.specs.Tree.{node, trees_of}
use Rattle.qed_terms.specs.View.{term_tree}
use Rattle.qed_linear.specs.Linear.{sum_tree}

-- a sum of two terms and more
pub sum_long : (ts : List Term) → 2 ≤ length ts → sum_tree (map term_tree ts) ≡ node (h.Term op.Add) (trees_of (map term_tree ts))
sum_long [] k = absurd (omega arith)
sum_long (t ∷ []) k = absurd (omega arith)
sum_long (t ∷ u ∷ ts) k = refl
