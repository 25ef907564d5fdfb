use Rattle.std.proofs.Common.{◌≡◌}
use Rattle.qed_terms.specs.Tree.{size}
use Rattle.qed_terms.specs.View.{term_tree}
use Rattle.qed_linear.specs.View.{lin_of}
use Rattle.qed_memories.specs.Passes.{store_base}
use Rattle.qed_memories.proofs.loads.store_base.Given as goal

abbrev pub invariant-loop-below : goal.invariant-loop-below
invariant-loop-below l = store_base (term_tree l.left) (lin_of l.block) (lin_of l.offset) ≡ store_base (term_tree l.memory) (lin_of l.block) (lin_of l.offset)

abbrev pub decreases-loop-below : goal.decreases-loop-below
decreases-loop-below l = size (term_tree l.left)
