use Rattle.std.proofs.Common.{◌≡◌}
use Rattle.qed_terms.specs.Tree.{size}
use Rattle.qed_terms.specs.View.{term_tree}
use Rattle.qed_memories.specs.Memories.{normal_count}
use Rattle.qed_memories.specs.View.{raised}
use Rattle.qed_memories.proofs.tables.unmade.Given as goal

abbrev pub invariant-loop-below : goal.invariant-loop-below
invariant-loop-below l = normal_count (term_tree l.table) ≡ raised l.made (normal_count (term_tree l.left))

abbrev pub decreases-loop-below : goal.decreases-loop-below
decreases-loop-below l = size (term_tree l.left)
