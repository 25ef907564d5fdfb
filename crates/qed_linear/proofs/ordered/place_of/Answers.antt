use Rattle.std.proofs.Common.{sym, ◌∙◌, arith}
use Rattle.qed_terms.specs.View.{term_tree}
use Rattle.qed_linear.proofs.Gathered.{place_less, place_equal, place_further, place_end}
use Rattle.qed_linear.proofs.ordered.place_of.Goals as goal

pub returns-in-Less : goal.returns-in-Less
returns-in-Less c = place_less c.args.factors.now c.loop-at.at c.index-factors-at.result (term_tree c.args.factor.now) (omega arith) c.index-factors-at.is (sym c.compare.ensures ∙ c.in-Less.is) c.loop-at.invariant.passed

pub returns-in-Equal : goal.returns-in-Equal
returns-in-Equal c = place_equal c.args.factors.now c.loop-at.at c.index-factors-at.result (term_tree c.args.factor.now) (omega arith) c.index-factors-at.is (sym c.compare.ensures ∙ c.in-Equal.is) c.loop-at.invariant.passed

pub loop-at-preserved : goal.loop-at-preserved
loop-at-preserved c = record {
  within = omega arith;
  passed = place_further c.args.factors.now c.loop-at.at c.index-factors-at.result (term_tree c.args.factor.now) (omega arith) c.index-factors-at.is (sym c.compare.ensures ∙ c.in-Greater.is) c.loop-at.invariant.passed;
}

pub returns : goal.returns
returns c = place_end c.args.factors.now c.loop-at.at (term_tree c.args.factor.now) (omega arith) c.loop-at.invariant.passed
