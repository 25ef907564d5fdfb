use Rattle.std.proofs.Common.{arith}
use Rattle.qed_numbers.proofs.Others.{long_of_one}
use Rattle.qed_numbers.proofs.passes.long_step.Goals as goal

pub returns-then-kids-ne1 : goal.returns-then-kids-ne1
returns-then-kids-ne1 c = long_of_one c.args.long_bits c.args.op.now c.in-Wrap.kind c.args.kids.now c.in-Wrap.is (λ e. omega (arith, e, c.if-kids-ne1.true))
