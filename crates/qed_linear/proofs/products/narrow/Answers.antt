use Rattle.std.proofs.Common.{subst}
use Rattle.qed_linear.specs.View.{IsProduct}
use Rattle.qed_linear.proofs.Factors.{beyond_unfitted}
use Rattle.qed_linear.proofs.products.narrow.Goals as goal

pub returns-in-Beyond : goal.returns-in-Beyond
returns-in-Beyond c = λ z k. beyond_unfitted z (subst (λ p. IsProduct p z) c.in-Beyond.is k)
