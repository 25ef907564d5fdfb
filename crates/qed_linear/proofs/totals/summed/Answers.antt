use Rattle.std.proofs.Common.{◌++◌, ◌∙◌}
use Rattle.qed_linear.specs.Linear.{lin}
use Rattle.qed_linear.specs.Totals.{total_parts}
use Rattle.qed_linear.specs.View.{wide_parts, wide_value}
use Rattle.qed_linear.proofs.TotalSteps.{summed_more, summed_whole}
use Rattle.qed_linear.proofs.totals.summed.Goals as goal

pub loop-key-init : goal.loop-key-init
loop-key-init c = λ i. wide_parts (c.new-parts.ensures.items i) ++ total_parts ((c.into_iter-key-iterator.ensures.into_iter_gives ∙ c.iter-key-items.ensures.rest) i)

pub loop-key-preserved : goal.loop-key-preserved
loop-key-preserved c =
    summed_more (wide_parts c.loop-key.parts.items) (wide_parts c.push_nonzero.new.parts.items) c.loop-key.key-iterator c.next.new.self (c.in-Some.key.now, c.in-Some.times.now)
    (total_parts c.args.total.now.parts.entries) c.loop-key.invariant c.in-Some.ensures.steps c.in_ok-push_nonzero.ensures

pub returns : goal.returns
returns c =
    let p = summed_whole (wide_parts c.loop-key.parts.items) c.loop-key.key-iterator (total_parts c.args.total.now.parts.entries) c.loop-key.invariant c.in-None.ensures.steps.0 in
    λ i. lin (p i) (wide_value c.args.total.now.constant)
