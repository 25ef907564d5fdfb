use Rattle.std.proofs.Common.{◌≡◌}
use Rattle.qed_terms.specs.Tree.{size}
use Rattle.qed_terms.specs.View.{term_tree}
use Rattle.qed_linear.specs.View.{lin_of}
use Rattle.qed_memories.specs.Passes.{grow_base}
use Rattle.qed_memories.proofs.tables.grow_base.Given as goal

abbrev pub invariant-loop-below : goal.invariant-loop-below
invariant-loop-below l = grow_base (term_tree l.left) (lin_of l.count) ≡ grow_base (term_tree l.table) (lin_of l.count)

abbrev pub decreases-loop-below : goal.decreases-loop-below
decreases-loop-below l = size (term_tree l.left)
