use Rattle.std.proofs.Common.{arith}
use Rattle.qed_terms.specs.declared.head.FormOp.TheVariants as rel
use Rattle.qed_memories.proofs.Looks.{no_live, no_read, no_write, at_form}
use Rattle.qed_memories.proofs.steps.block_pass.Goals as goal

pub returns-then-kids-ne2 : goal.returns-then-kids-ne2
returns-then-kids-ne2 c = at_form c.args.op.now rel.Live c.args.kids.now c.in-Live.is (no_live c.args.kids.now (λ e. omega (arith, e, c.if-kids-ne2.true)))

pub returns-then-kids-ne3 : goal.returns-then-kids-ne3
returns-then-kids-ne3 c = at_form c.args.op.now (rel.Read c.in-Read.kind) c.args.kids.now c.in-Read.is (no_read c.in-Read.kind c.args.kids.now (λ e. omega (arith, e, c.if-kids-ne3.true)))

pub returns-then-kids-ne3-2 : goal.returns-then-kids-ne3-2
returns-then-kids-ne3-2 c = at_form c.args.op.now (rel.Write c.in-Write.kind) c.args.kids.now c.in-Write.is (no_write c.in-Write.kind c.args.kids.now (λ e. omega (arith, e, c.if-kids-ne3-2.true)))
