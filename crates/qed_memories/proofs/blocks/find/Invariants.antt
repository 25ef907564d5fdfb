use Rattle.std.proofs.Common.{◌≡◌}
use Rattle.qed_terms.specs.Tree.{size}
use Rattle.qed_terms.specs.View.{term_tree}
use Rattle.qed_linear.specs.View.{lin_of}
use Rattle.qed_memories.specs.Passes.{find}
use Rattle.qed_memories.proofs.blocks.find.Given as goal

abbrev pub invariant-loop-below : goal.invariant-loop-below
invariant-loop-below l = find (term_tree l.left) (lin_of l.block) ≡ find (term_tree l.table) (lin_of l.block)

abbrev pub decreases-loop-below : goal.decreases-loop-below
decreases-loop-below l = size (term_tree l.left)
