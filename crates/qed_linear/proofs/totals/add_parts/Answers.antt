use Rattle.std.proofs.Common.{◌≡◌, ◌+◌, ◌-◌, take, ◌∙◌, ap, arith, rules, FitsSigned}
use Rattle.std.specs.Int.{w128}
use Rattle.std.proofs.lemmas.Int.{to_z-of_z}
use Rattle.qed_terms.specs.View.{term_tree}
use Rattle.qed_linear.specs.Linear.{add_part, add_parts}
use Rattle.qed_linear.specs.Totals.{total_parts}
use Rattle.qed_linear.specs.View.{parts_of, signed_parts, signed_value}
use Rattle.qed_linear.proofs.TotalSteps.{parts_down}
use Rattle.qed_linear.proofs.totals.add_parts.Goals as goal

pub loop-left-preserved : goal.loop-left-preserved
loop-left-preserved c =
    let k = c.loop-left.left - 1 in
    let n : k + 1 ≡ c.loop-left.left = omega arith in
    let x = c.index-parts-left.result in
    let b = c.args.negative in
    let qs = total_parts c.loop-left.total.entries in
    let fits : FitsSigned w128 x.times = search rules in
    let z = c.widen.ensures ∙ ap (signed_value b) (to_z-of_z w128 x.times fits) in
    let e = c.in_ok-add_part.ensures ∙ (λ i. add_part (term_tree x.atom) (z i) qs) in
    record {
      within = omega arith;
      rest = parts_down b c.args.parts.now k x qs (total_parts c.add_part.new.parts.entries) (omega arith) c.index-parts-left.is e
          ∙ ap (λ m. add_parts (signed_parts b (parts_of (take m c.args.parts.now))) qs) n ∙ c.loop-left.invariant.rest;
    }
