use Rattle.qed_terms.specs.View.{term_tree}
use Rattle.qed_memories.proofs.Counts.{count_grown}
use Rattle.qed_memories.proofs.tables.unmade.Goals as goal

pub returns-in-Grown : goal.returns-in-Grown
returns-in-Grown c = count_grown (term_tree c.args.table.now) _ (term_tree c.in-Grown.field-0.now) (term_tree c.in-Grown.field-1.now) c.loop-below.made c.in-Grown.ensures c.loop-below.invariant
