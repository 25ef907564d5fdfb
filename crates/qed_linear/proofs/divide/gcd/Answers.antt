use Rattle.std.proofs.Common.{sym, ◌∙◌, ap}
use Rattle.qed_linear.specs.Linear.{gcd}
use Rattle.qed_linear.proofs.Divisors.{gcd_step, gcd_zero}
use Rattle.qed_linear.proofs.divide.gcd.Goals as goal

pub loop-rest-preserved : goal.loop-rest-preserved
loop-rest-preserved c = sym (gcd_step c.loop-rest.kept c.loop-rest.rest) ∙ c.loop-rest.invariant

pub returns : goal.returns
returns c = sym (gcd_zero c.loop-rest.kept) ∙ sym (ap (gcd c.loop-rest.kept) c.loop-rest-test.false) ∙ c.loop-rest.invariant
