use Rattle.std.proofs.Common.{◌∙◌, ap}
use Rattle.qed_linear.specs.Linear.{add}
use Rattle.qed_linear.specs.View.{lin_of, signed}
use Rattle.qed_linear.proofs.TotalSteps.{begins_with}
use Rattle.qed_linear.proofs.sums.sum_in_order.Goals as goal

pub returns : goal.returns
returns c =
    let f = lin_of c.args.form.now in
    let g = lin_of c.args.other.now in
    let b = c.args.negative in
    let first = c.in_ok-add_to_total.ensures ∙ ap (add (signed b g)) c.no_total-total.ensures ∙ begins_with b g c.requires in
    c.in_ok-sum.ensures ∙ c.in_ok-add_to_total-2.ensures ∙ ap (add f) first
