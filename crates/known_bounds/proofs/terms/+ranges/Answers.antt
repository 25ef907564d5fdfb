use Rattle.std.proofs.Common.{◌≡◌, length, map, take, pos, sym, ap, ◌∙◌, subst, inl, inr, arith}
use Rattle.qed_terms.specs.Operators.{total}
use Rattle.known_bounds.specs.Ranges.{IsIn}
use Rattle.known_bounds.specs.Bounds.{term_value}
use Rattle.known_bounds.proofs.Values.{number_value, sum_whole, sum_next, difference_value, opposite_value, choice_value}
use Rattle.known_bounds.proofs.terms.+ranges.Goals as goal

pub sum_range-loop-kid-preserved : goal.sum_range-loop-kid-preserved
sum_range-loop-kid-preserved l c w env kept =
    sum_next w env c.args.kids.now c.loop-kid.kid-index c.kid-item.result c.sum-total.result c.loop-kid-test.true c.kid-item.is
    (c.sum-total.ensures (total (map (term_value w env) (take c.loop-kid.kid-index c.args.kids.now))) (term_value w env c.kid-item.result) (c.loop-kid.invariant w env kept) (c.term_range.ensures w env kept))

pub sum_range-returns : goal.sum_range-returns
sum_range-returns l c w env kept = sum_whole w env c.args.kids.now c.loop-kid.kid-index c.loop-kid.total c.loop-kid-test.false (c.loop-kid.invariant w env kept)

pub difference_range-returns : goal.difference_range-returns
difference_range-returns l c w env kept =
    let two : length c.args.kids.now ≡ 2 = omega arith in
    subst (IsIn c.difference.result) (sym (difference_value w env c.args.kids.now c.index-kids-0.result c.index-kids-1.result two c.index-kids-0.is c.index-kids-1.is))
    (c.difference.ensures (term_value w env c.index-kids-0.result) (term_value w env c.index-kids-1.result) (c.term_range.ensures w env kept) (c.term_range-2.ensures w env kept))

pub opposite_range-returns : goal.opposite_range-returns
opposite_range-returns l c w env kept =
    let one : length c.args.kids.now ≡ 1 = omega arith in
    subst (IsIn c.difference.result) (sym (opposite_value w env c.args.kids.now c.index-kids-0.result one c.index-kids-0.is))
    (c.difference.ensures (pos 0) (term_value w env c.index-kids-0.result) c.exactly.ensures (c.term_range.ensures w env kept))

pub term_range-returns-in-Num : goal.term_range-returns-in-Num
term_range-returns-in-Num l c w env kept = subst (IsIn c.exactly.result) (sym (ap (term_value w env) c.in-Num.is ∙ number_value w env c.in-Num.value)) c.exactly.ensures

pub term_range-returns-in-Ite : goal.term_range-returns-in-Ite
term_range-returns-in-Ite l c w env kept =
    subst (λ t. IsIn c.either.result (term_value w env t)) (sym c.in-Ite.is)
    (choice_value w env c.in-Ite.field-0 c.in-Ite.then c.in-Ite.other c.either.result
    (c.either.ensures (term_value w env c.in-Ite.then) (inl (subst (λ t. IsIn c.term_range.result (term_value w env t)) c.get.ensures (c.term_range.ensures w env kept))))
    (c.either.ensures (term_value w env c.in-Ite.other) (inr (subst (λ t. IsIn c.term_range-in-Ite.result (term_value w env t)) c.get-in-Ite.ensures (c.term_range-in-Ite.ensures w env kept)))))
