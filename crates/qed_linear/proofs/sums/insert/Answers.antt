use Rattle.qed_terms.specs.View.{term_tree}
use Rattle.qed_linear.specs.View.{wide_value}
use Rattle.qed_linear.proofs.SumSteps.{none_inserted}
use Rattle.qed_linear.proofs.sums.insert.Goals as goal

pub returns-else-not-is_zero : goal.returns-else-not-is_zero
returns-else-not-is_zero c = none_inserted c.args.parts.now.items c.args.at (term_tree c.args.atom) (wide_value c.args.times) (c.is_zero.ensures.0 c.if-not-is_zero.false)
