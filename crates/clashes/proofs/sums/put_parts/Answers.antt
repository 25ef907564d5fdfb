use Rattle.std.proofs.Common.{rules, ◌≡◌, ◌==◌, FitsSigned, get_or, ap, ◌∙◌, arith}
use Rattle.std.specs.Prelude.{pos, ◌+ℤ◌, if◌then◌else◌}
use Rattle.std.specs.Int.{w128}
use Rattle.std.proofs.lemmas.Int.{to_z-of_z, ints}
use Rattle.same_places.specs.Same.{at}
use Rattle.term_forms.specs.Forms.{signed_number}
use Rattle.clashes.specs.Sums.{signed_place, share, sum_in}
use Rattle.clashes.proofs.Adding.{parts_more}
use Rattle.clashes.proofs.sums.put_parts.Goals as goal

pub loop-part-preserved : goal.loop-part-preserved
loop-part-preserved c = λ d.
    let i = c.loop-part.part-index in
    let p = get_or c.args.parts.now i (0, pos 0) in
    let class_of = at c.args.classes.now in
    let given : FitsSigned w128 p.1 = search rules in
    let put = c.in_ok-put_number.ensures d ∙ ap (λ z. sum_in c.loop-part.sums.entries d +ℤ (if c.class_at.result == d then signed_number c.args.turned z else pos 0)) (to_z-of_z w128 p.1 given) in
    let same : (if c.class_at.result == d then signed_number c.args.turned p.1 else pos 0) ≡ share class_of d (signed_place c.args.turned p) = ap (λ z. if z == d then signed_number c.args.turned p.1 else pos 0) c.class_at.ensures in
    let more = parts_more class_of d c.args.turned c.args.parts.now i (0, pos 0) c.loop-part-test.true in
    let before = c.loop-part.invariant d in
    omega (arith, ints, put, same, more, before)
