use Rattle.std.proofs.Common.{take_all, sym, ◌∙◌, ap, arith, rules, FitsSigned}
use Rattle.std.specs.Int.{w128}
use Rattle.std.proofs.lemmas.Int.{to_z-of_z}
use Rattle.qed_linear.specs.Linear.{numbers_fit, scale_parts}
use Rattle.qed_linear.specs.View.{parts_of}
use Rattle.qed_linear.proofs.Fitting.{scaled_more, scaled_stops}
use Rattle.qed_linear.proofs.calls.can_scale.Goals as goal

pub loop-part-preserved : goal.loop-part-preserved
loop-part-preserved c =
    let x = c.part-item.result in
    let by : FitsSigned w128 c.args.by = search rules in
    let times : FitsSigned w128 x.times = search rules in
    let b = to_z-of_z w128 c.args.by by in
    let e = rw (b, to_z-of_z w128 x.times times) at c.in-Some.ensures in
    rw b (scaled_more c.args.by c.args.parts.now c.loop-part.part-index x (omega arith) c.part-item.is e.0 (rw b at c.loop-part.invariant))

pub returns-in-None : goal.returns-in-None
returns-in-None c =
    let x = c.part-item.result in
    let by : FitsSigned w128 c.args.by = search rules in
    let times : FitsSigned w128 x.times = search rules in
    let u = rw (to_z-of_z w128 c.args.by by, to_z-of_z w128 x.times times) at c.in-None.ensures in
    scaled_stops c.args.by c.args.parts.now c.loop-part.part-index x (omega arith) c.part-item.is u

pub returns : goal.returns
returns c =
    let by : FitsSigned w128 c.args.by = search rules in
    let h = rw (to_z-of_z w128 c.args.by by) at c.loop-part.invariant in
    sym (sym (ap (λ ys. numbers_fit (scale_parts c.args.by (parts_of ys))) (take_all c.loop-part.part-index c.args.parts.now (omega arith))) ∙ h)
