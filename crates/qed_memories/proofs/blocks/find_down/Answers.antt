use Rattle.qed_terms.specs.View.{term_tree}
use Rattle.qed_linear.specs.View.{lin_of}
use Rattle.qed_memories.specs.View.{view_found}
use Rattle.qed_memories.proofs.Finding.{down_grown}
use Rattle.qed_memories.proofs.blocks.find_down.Goals as goal

pub returns-in_ok-find-in-Grown : goal.returns-in_ok-find-in-Grown
returns-in_ok-find-in-Grown c =
    down_grown (term_tree c.args.table.now) (term_tree c.in-Grown.below.now) (term_tree c.in-Grown.field-1.now) (lin_of c.args.block.now) (view_found c.in_ok-find-in-Grown.field-0) c.in-Grown.ensures c.in_ok-find-in-Grown.ensures
