use Rattle.std.proofs.Common.{arith}
use Rattle.qed_memories.proofs.Looks.{made_of_one, grown_of_two}
use Rattle.qed_memories.proofs.look.built_of.Goals as goal

pub returns-then-kids-ne1 : goal.returns-then-kids-ne1
returns-then-kids-ne1 c = made_of_one c.args.op.now c.in-Alloc.layout c.args.kids.now c.in-Alloc.is (λ e. omega (arith, e, c.if-kids-ne1.true))

pub returns-then-kids-ne2 : goal.returns-then-kids-ne2
returns-then-kids-ne2 c = grown_of_two c.args.op.now c.args.kids.now c.in-Grow.is (λ e. omega (arith, e, c.if-kids-ne2.true))
