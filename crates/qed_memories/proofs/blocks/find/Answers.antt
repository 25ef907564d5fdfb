use Rattle.qed_terms.specs.View.{term_tree}
use Rattle.qed_linear.specs.View.{lin_of}
use Rattle.qed_memories.proofs.Finding.{find_grown}
use Rattle.qed_memories.proofs.blocks.find.Goals as goal

pub loop-below-preserved-in-Grown : goal.loop-below-preserved-in-Grown
loop-below-preserved-in-Grown c = find_grown _ (term_tree c.in-Grown.below.now) (term_tree c.in-Grown.field-1.now) (term_tree c.args.table.now) (lin_of c.args.block.now) c.in-Grown.ensures c.loop-below.invariant
