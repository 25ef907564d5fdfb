use Rattle.std.proofs.Common.{arith}
use Rattle.qed_terms.specs.View.{term_tree}
use Rattle.qed_memories.proofs.Looks.{count_of_one}
use Rattle.qed_memories.proofs.tables.is_count_over.Goals as goal

pub returns-then-kids-ne1 : goal.returns-then-kids-ne1
returns-then-kids-ne1 c = count_of_one (term_tree c.args.table.now) c.args.op.now c.args.kids.now c.in-Count.is (λ e. omega (arith, e, c.if-kids-ne1.true))
