use Rattle.std.proofs.Common.{◌≡◌, ◌+◌, ◌-◌, take, ◌∙◌, ap, arith, rules, FitsSigned}
use Rattle.std.specs.Int.{w128}
use Rattle.std.proofs.lemmas.Int.{to_z-of_z}
use Rattle.qed_terms.specs.View.{term_tree}
use Rattle.qed_linear.specs.Linear.{add_part, add_parts}
use Rattle.qed_linear.specs.View.{parts_of, wide_parts}
use Rattle.qed_linear.proofs.SumSteps.{add_parts_down}
use Rattle.qed_linear.proofs.sums.add_form.Goals as goal

pub loop-left-preserved : goal.loop-left-preserved
loop-left-preserved c =
    let k = c.loop-left.left - 1 in
    let n : k + 1 ≡ c.loop-left.left = omega arith in
    let x = c.index-part.result.now in
    let qs = wide_parts c.loop-left.parts.items in
    let fits : FitsSigned w128 x.times = search rules in
    let a = ap term_tree c.in_ok-copy.ensures in
    let z = c.of.ensures ∙ to_z-of_z w128 x.times fits in
    let e = c.in_ok-add_part.ensures ∙ (λ i. add_part (a i) (z i) qs) in
    record {
      within = omega arith;
      rest = add_parts_down c.args.form.now.parts.items k x qs (wide_parts c.add_part.new.parts.items) (omega arith) c.index-part.ensures e
          ∙ ap (λ m. add_parts (parts_of (take m c.args.form.now.parts.items)) qs) n ∙ c.loop-left.invariant.rest;
    }
