use Rattle.std.proofs.Common.{◌≡◌, get_or, sym, ◌∙◌, ap, below_more}
use Rattle.std.specs.Prelude.{pos}
use Rattle.same_places.specs.Same.{Part, at}
use Rattle.clashes.specs.Sums.{sum_in}
use Rattle.clashes.proofs.Listed.{same_default}
use Rattle.clashes.proofs.sums.are_nothing.Goals as goal

pub loop-part-preserved : goal.loop-part-preserved
loop-part-preserved c = λ k d l.
    let parts = c.args.parts.now in
    let i = c.loop-part.part-index in
    let sum = sum_in c.args.sums.now.entries in
    let class_of = at c.args.classes.now in
    let zero = ap sum (sym c.class_at.ensures) ∙ sym c.sum_at.ensures ∙ c.is_zero.ensures.0 c.if-not-is_zero.false in
    let here = ap (λ (p : Part). sum (class_of (p.0))) (same_default parts i d (0, pos 0) c.loop-part-test.true) ∙ zero in
    below_more (λ j. sum (class_of ((get_or parts j d).0)) ≡ pos 0) i (λ j m. c.loop-part.invariant j d m) here k l
