use Rattle.std.proofs.Common.{ap, ◌∙◌, ◌+ℤ◌}
use Rattle.qed_linear.specs.Totals.{total_parts}
use Rattle.qed_linear.specs.View.{wide_value}
use Rattle.qed_linear.proofs.TotalSteps.{put}
use Rattle.qed_linear.proofs.totals.add_part.Goals as goal

pub returns-in-Ok : goal.returns-in-Ok
returns-in-Ok c =
    ap total_parts c.in-Ok.ensures.entries
    ∙ put c.args.parts.now.entries (record { term = c.args.atom }) c.in_ok-sum.sum (wide_value c.args.times) c.in-Ok.ensures.was_ordered
    (c.in_ok-sum.ensures ∙ ap (λ z. wide_value c.args.times +ℤ z) c.times_of.ensures)
