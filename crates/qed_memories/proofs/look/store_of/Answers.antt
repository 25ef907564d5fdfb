use Rattle.std.proofs.Common.{arith}
use Rattle.qed_memories.proofs.Looks.{store_of_four}
use Rattle.qed_memories.proofs.look.store_of.Goals as goal

pub returns-then-kids-ne4 : goal.returns-then-kids-ne4
returns-then-kids-ne4 c = store_of_four c.args.op.now c.args.kids.now c.in-Store.is (λ e. omega (arith, e, c.if-kids-ne4.true))
