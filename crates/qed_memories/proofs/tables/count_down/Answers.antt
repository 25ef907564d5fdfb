use Rattle.qed_terms.specs.View.{term_tree}
use Rattle.qed_memories.proofs.Counts.{grown_not_down}
use Rattle.qed_memories.proofs.tables.count_down.Goals as goal

pub returns-in-Grown : goal.returns-in-Grown
returns-in-Grown c = grown_not_down (term_tree c.args.table.now) (term_tree c.in-Grown.field-0.now) (term_tree c.in-Grown.field-1.now) c.in-Grown.ensures
