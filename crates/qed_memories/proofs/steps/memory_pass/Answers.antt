use Rattle.std.proofs.Common.{arith}
use Rattle.qed_terms.specs.declared.head.TermOp.TheVariants as op
use Rattle.qed_memories.proofs.Looks.{no_load, no_store, no_count, no_grow, no_len, at_op}
use Rattle.qed_memories.proofs.steps.memory_pass.Goals as goal

pub returns-then-kids-ne3 : goal.returns-then-kids-ne3
returns-then-kids-ne3 c = at_op c.args.op.now op.Load c.args.kids.now c.in-Load.is (no_load c.args.kids.now (λ e. omega (arith, e, c.if-kids-ne3.true)))

pub returns-then-kids-ne4 : goal.returns-then-kids-ne4
returns-then-kids-ne4 c = at_op c.args.op.now op.Store c.args.kids.now c.in-Store.is (no_store c.args.kids.now (λ e. omega (arith, e, c.if-kids-ne4.true)))

pub returns-then-kids-ne1 : goal.returns-then-kids-ne1
returns-then-kids-ne1 c = at_op c.args.op.now op.Count c.args.kids.now c.in-Count.is (no_count c.args.kids.now (λ e. omega (arith, e, c.if-kids-ne1.true)))

pub returns-then-kids-ne2 : goal.returns-then-kids-ne2
returns-then-kids-ne2 c = at_op c.args.op.now op.Grow c.args.kids.now c.in-Grow.is (no_grow c.args.kids.now (λ e. omega (arith, e, c.if-kids-ne2.true)))

pub returns-then-kids-ne2-2 : goal.returns-then-kids-ne2-2
returns-then-kids-ne2-2 c = at_op c.args.op.now op.Len c.args.kids.now c.in-Len.is (no_len c.args.kids.now (λ e. omega (arith, e, c.if-kids-ne2-2.true)))
