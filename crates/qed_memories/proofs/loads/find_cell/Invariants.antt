use Rattle.std.proofs.Common.{◌≡◌}
use Rattle.qed_terms.specs.Tree.{size}
use Rattle.qed_terms.specs.View.{term_tree}
use Rattle.qed_linear.specs.View.{lin_of}
use Rattle.qed_memories.specs.Passes.{find_cell}
use Rattle.qed_memories.proofs.loads.find_cell.Given as goal

abbrev pub invariant-loop-below : goal.invariant-loop-below
invariant-loop-below l = find_cell (term_tree l.left) (lin_of l.block) (lin_of l.offset) ≡ find_cell (term_tree l.memory) (lin_of l.block) (lin_of l.offset)

abbrev pub decreases-loop-below : goal.decreases-loop-below
decreases-loop-below l = size (term_tree l.left)
