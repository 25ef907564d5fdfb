use Rattle.std.proofs.Common.{◌≡◌, take_all, of_z, Some, pos, sym, ◌∙◌, ap, arith, rules, FitsSigned}
use Rattle.std.specs.Int.{w128}
use Rattle.std.proofs.lemmas.Int.{to_z-of_z, ints}
use Rattle.qed_terms.specs.Tree.{head_of}
use Rattle.qed_terms.specs.View.{term_tree}
use Rattle.qed_linear.specs.Linear.{is_integer, scale_parts}
use Rattle.qed_linear.specs.View.{parts_of, lin_of}
use Rattle.qed_linear.proofs.SumSteps.{scale_more, fit_more, scale_zero, scale_fails, scale_refuses, scale_last_fails, scale_done}
use Rattle.qed_linear.proofs.sums.scaled.Goals as goal

pub returns-then-by-eq0 : goal.returns-then-by-eq0
returns-then-by-eq0 c =
    let z : c.args.by ≡ pos 0 = omega (arith, ints) in
    ap Some c.number.ensures ∙ scale_zero c.args.by (lin_of c.args.form.now) z

pub loop-part-preserved : goal.loop-part-preserved
loop-part-preserved c =
    let x = c.part-item.result in
    let d = c.in-Some.times in
    let p = rw c.deref-part-items.ensures.value at c.part-item.is in
    let by : FitsSigned w128 c.args.by = search rules in
    let times : FitsSigned w128 x.times = search rules in
    let fits : FitsSigned w128 d = search rules in
    let b = to_z-of_z w128 c.args.by by in
    let g = rw (to_z-of_z w128 d fits) at c.in_ok-push_part-in-Some.ensures in
    let e = rw (b, to_z-of_z w128 x.times times) at c.in-Some.ensures in
    let ls = c.loop-part.parts.items in
    let ls' = c.push_part.new.parts.items in
    let a = ap term_tree c.in_ok-copy-in-Some.ensures in
    let whole = ap (λ y. is_integer (head_of y)) a ∙ sym c.is_integer.ensures ∙ c.if-not-is_integer.false in
    rw b (record {
      so_far = scale_more c.args.by ls ls' c.args.form.now.parts.items c.loop-part.part-index x (term_tree c.in_ok-copy-in-Some.field-0) d (omega arith) p a e.1 (rw b at c.loop-part.invariant.so_far) g;
      hold = fit_more (parts_of ls) (parts_of ls') (term_tree c.in_ok-copy-in-Some.field-0) d c.loop-part.invariant.hold whole fits g;
    })

pub returns-then-not-is_integer : goal.returns-then-not-is_integer
returns-then-not-is_integer c =
    let p = rw c.deref-part-items.ensures.value at c.part-item.is in
    scale_refuses c.args.by c.args.form.now c.loop-part.part-index c.part-item.result (λ e. c.if-by-eq0.false (ap (of_z w128) e)) (omega arith) p (sym c.is_integer.ensures ∙ c.if-not-is_integer.true)

pub returns-in-None : goal.returns-in-None
returns-in-None c =
    let x = c.part-item.result in
    let p = rw c.deref-part-items.ensures.value at c.part-item.is in
    let by : FitsSigned w128 c.args.by = search rules in
    let times : FitsSigned w128 x.times = search rules in
    let u = rw (to_z-of_z w128 c.args.by by, to_z-of_z w128 x.times times) at c.in-None.ensures in
    scale_fails c.args.by c.args.form.now c.loop-part.part-index x (λ e. c.if-by-eq0.false (ap (of_z w128) e)) (omega arith) p u

pub returns-in-Some-checked_mul : goal.returns-in-Some-checked_mul
returns-in-Some-checked_mul c =
    let f = c.args.form.now in
    let d = c.in-Some-checked_mul.constant in
    let by : FitsSigned w128 c.args.by = search rules in
    let constant : FitsSigned w128 f.constant = search rules in
    let fits : FitsSigned w128 d = search rules in
    let b = to_z-of_z w128 c.args.by by in
    let e = rw (b, to_z-of_z w128 f.constant constant) at c.in-Some-checked_mul.ensures in
    let all = take_all c.loop-part.part-index f.parts.items (omega arith) in
    let h = rw b at c.loop-part.invariant.so_far in
    rw (to_z-of_z w128 d fits)
    (scale_done c.args.by f c.loop-part.parts.items d (λ z. c.if-by-eq0.false (ap (of_z w128) z)) (h ∙ ap (λ ys. scale_parts c.args.by (parts_of ys)) all) c.loop-part.invariant.hold e.1 fits)

pub returns-in-None-checked_mul : goal.returns-in-None-checked_mul
returns-in-None-checked_mul c =
    let f = c.args.form.now in
    let by : FitsSigned w128 c.args.by = search rules in
    let constant : FitsSigned w128 f.constant = search rules in
    let u = rw (to_z-of_z w128 c.args.by by, to_z-of_z w128 f.constant constant) at c.in-None-checked_mul.ensures in
    scale_last_fails c.args.by f (λ z. c.if-by-eq0.false (ap (of_z w128) z)) u
