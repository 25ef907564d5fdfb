use Rattle.std.proofs.Common.{◌≡◌, of_z, pos, refl, sym, ◌∙◌, ap, arith, rules, FitsSigned, Some}
use Rattle.std.specs.Int.{w128}
use Rattle.std.proofs.lemmas.Int.{to_z-of_z, ints}
use Rattle.qed_linear.specs.Linear.{lin, numbers_fit, scale_parts}
use Rattle.qed_linear.specs.View.{parts_of, lin_of}
use Rattle.qed_linear.proofs.Fitting.{zero_scaled, scaled_whole, scaled_constant_wide}
use Rattle.qed_linear.proofs.calls.scale.Goals as goal

pub returns-then-by-eq0-clause-some : goal.returns-then-by-eq0-clause-some
returns-then-by-eq0-clause-some c =
    let z : c.args.by ≡ pos 0 = omega (arith, ints) in
    ap (λ ys. Some (lin (parts_of ys) (pos 0))) c.clear.ensures.items ∙ zero_scaled c.args.by (lin_of c.args.form.now) z

pub returns-in-Some-clause-some : goal.returns-in-Some-clause-some
returns-in-Some-clause-some c =
    let f = c.args.form.now in
    let d = c.in-Some.constant in
    let constant : FitsSigned w128 f.constant = search rules in
    let fits : FitsSigned w128 d = search rules in
    let b = to_z-of_z w128 c.args.by c.ranges.by in
    let e = rw (b, to_z-of_z w128 f.constant constant) at c.in-Some.ensures in
    let all = ap (λ ys. numbers_fit (scale_parts c.args.by (parts_of ys))) (sym c.as_slice.ensures.value) ∙ sym (rw b at c.can_scale.ensures) ∙ c.if-not-can_scale.false in
    rw (to_z-of_z w128 d fits) (scaled_whole c.args.by (lin_of f) (lin (parts_of c.scale_parts.new.parts.items) d) (λ z. c.if-by-eq0.false (ap (of_z w128) z)) all (rw b at c.scale_parts.ensures) e.1 fits)

pub returns-in-None-clause-none : goal.returns-in-None-clause-none
returns-in-None-clause-none c =
    let f = c.args.form.now in
    let constant : FitsSigned w128 f.constant = search rules in
    let u = rw (to_z-of_z w128 c.args.by c.ranges.by, to_z-of_z w128 f.constant constant) at c.in-None.ensures in
    (scaled_constant_wide c.args.by (lin_of f) (λ z. c.if-by-eq0.false (ap (of_z w128) z)) u, refl)
