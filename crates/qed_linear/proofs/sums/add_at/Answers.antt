use Rattle.std.proofs.Common.{◌≡◌, ◌++◌, take, drop}
use Rattle.qed_terms.specs.View.{term_tree}
use Rattle.qed_linear.specs.Linear.{cons_nonzero}
use Rattle.qed_linear.specs.View.{wide_value, wide_parts, IsAddedAt}
use Rattle.qed_linear.proofs.SumSteps.{is_joined}
use Rattle.qed_linear.proofs.Places.{on_ok}
use Rattle.qed_linear.proofs.sums.add_at.Goals as goal

pub returns : goal.returns
returns c =
    let ys = c.remove-part.new.self.items in
    let r = c.remove-part.result in
    on_ok c.insert.result
    (wide_parts c.insert.new.parts.items ≡ wide_parts (take c.args.at ys) ++ cons_nonzero (term_tree r.atom) (wide_value c.in_ok-sum.sum) (wide_parts (drop c.args.at ys)))
    (IsAddedAt c.args.parts.now.items c.args.at (wide_value c.args.times) c.insert.new.parts.items)
    (λ e x p. is_joined c.args.parts.now.items ys c.insert.new.parts.items c.args.at r x (wide_value c.args.times) (wide_value c.in_ok-sum.sum) c.requires c.remove-part.ensures.value p c.remove-part.ensures.items c.in_ok-sum.ensures e)
    c.insert.ensures
