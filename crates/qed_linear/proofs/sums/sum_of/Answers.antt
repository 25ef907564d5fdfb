use Rattle.std.proofs.Common.{◌≡◌, ◌+◌, ◌-◌, map, take, ◌∙◌, ap, arith}
use Rattle.qed_linear.specs.Totals.{total_lin}
use Rattle.qed_linear.specs.View.{lin_of}
use Rattle.qed_linear.proofs.SumSteps.{add_all_onto, add_all_down, add_all_whole}
use Rattle.qed_linear.proofs.sums.sum_of.Goals as goal

pub loop-left-init : goal.loop-left-init
loop-left-init c = record { within = omega arith; rest = add_all_whole c.args.forms.now (total_lin c.no_total-total.result) c.no_total-total.ensures }

pub loop-left-preserved : goal.loop-left-preserved
loop-left-preserved c =
    let k = c.loop-left.left - 1 in
    let n : k + 1 ≡ c.loop-left.left = omega arith in
    let s = total_lin c.loop-left.total in
    record {
      within = omega arith;
      rest = add_all_down c.args.forms.now k c.index-forms-left.result s (total_lin c.add_to_total.new.total) (omega arith) c.index-forms-left.is c.in_ok-add_to_total.ensures
          ∙ ap (λ m. add_all_onto (map lin_of (take m c.args.forms.now)) s) n ∙ c.loop-left.invariant.rest;
    }
