use Rattle.std.proofs.Common.{length, ap, refl, arith, rules, FitsSigned}
use Rattle.std.specs.Int.{w128}
use Rattle.std.proofs.lemmas.Int.{to_z-of_z}
use Rattle.qed_terms.specs.View.{term_tree}
use Rattle.qed_linear.specs.View.{parts_of, wide_value, wide_lin}
use Rattle.qed_linear.proofs.SumSteps.{narrowed_more}
use Rattle.qed_linear.proofs.Fitting.{more_fit, part_too_wide, all_fit, constant_too_wide}
use Rattle.qed_linear.proofs.Places.{none_left}
use Rattle.qed_linear.proofs.sums.fitting.Goals as goal

pub loop-part-preserved : goal.loop-part-preserved
loop-part-preserved c =
    let w = c.in-Some.part in
    let z = c.in-Some-narrow.times in
    let fits : FitsSigned w128 z = search rules in
    let e = to_z-of_z w128 z fits in
    let ls = c.loop-part.parts.items in
    let ls' = c.push_part.new.parts.items in
    let g = rw e at c.in_ok-push_part-in-Some-narrow.ensures in
    record {
      count = omega (arith, ap length c.in-Some.ensures.steps.0);
      so_far = narrowed_more ls ls' w c.loop-part.part-iterator.rest.items c.next.new.self.rest.items c.args.sum.parts.items (term_tree w.atom) z c.loop-part.invariant.so_far c.in-Some.ensures.steps.0 refl c.in-Some-narrow.ensures.1 g;
      hold = more_fit (parts_of ls) (parts_of ls') (term_tree w.atom) z c.loop-part.invariant.hold fits g;
    }

pub returns-in-None-narrow : goal.returns-in-None-narrow
returns-in-None-narrow c =
    part_too_wide c.loop-part.parts.items c.in-Some.part c.loop-part.part-iterator.rest.items c.next.new.self.rest.items c.args.sum.parts.items (wide_value c.args.sum.constant) c.loop-part.invariant.so_far c.in-Some.ensures.steps.0 c.in-None-narrow.ensures

pub returns-in-Some-narrow-2 : goal.returns-in-Some-narrow-2
returns-in-Some-narrow-2 c =
    let z = c.in-Some-narrow-2.constant in
    let fits : FitsSigned w128 z = search rules in
    let e = to_z-of_z w128 z fits in
    let none = none_left c.loop-part.part-iterator.rest.items (omega (arith, c.in-None.ensures.steps.0)) in
    rw e (all_fit c.loop-part.parts.items c.loop-part.part-iterator.rest.items c.args.sum.parts.items z (wide_value c.args.sum.constant) c.loop-part.invariant.so_far none c.loop-part.invariant.hold c.in-Some-narrow-2.ensures.1 fits)

pub returns-in-None-narrow-2 : goal.returns-in-None-narrow-2
returns-in-None-narrow-2 c = constant_too_wide (wide_lin c.args.sum) c.in-None-narrow-2.ensures
