use Rattle.std.proofs.Common.{◌≡◌, length, true, false, sym, ap, ◌∙◌, subst, ⊎_elim, inl, inr, arith}
use Rattle.qed_terms.specs.declared.term.Formula.TheVariants as formula
use Rattle.known_bounds.specs.Bounds.{AreKept}
use Rattle.known_bounds.proofs.Kept.{extends_both}
use Rattle.known_bounds.proofs.Values.{relation_of, opposite_of, parts_of, one_holds, hold_at}
use Rattle.known_bounds.proofs.formulas.+learning.Goals as goal

pub learn-returns-in-Rel-clause-kept : goal.learn-returns-in-Rel-clause-kept
learn-returns-in-Rel-clause-kept l c w env kept e =
    c.learn_relation.ensures.kept w env kept (relation_of w env c.args.formula.now c.in-Rel.op c.in-Rel.terms c.as_slice.result.now true c.in-Rel.is c.as_slice.ensures e)

pub learn-returns-in-Not-clause-kept : goal.learn-returns-in-Not-clause-kept
learn-returns-in-Not-clause-kept l c w env kept e = c.learn_opposite.ensures.kept w env kept (opposite_of w env c.args.formula.now c.in-Not.part c.get.result.now c.in-Not.is c.get.ensures e)

pub learn-returns-in-And-clause-kept : goal.learn-returns-in-And-clause-kept
learn-returns-in-And-clause-kept l c w env kept e = c.learn_all.ensures.kept w env kept (parts_of w env c.args.formula.now c.in-And.parts c.as_slice-in-And.result.now c.in-And.is c.as_slice-in-And.ensures e)

pub learn_all-loop-formula-preserved : goal.learn_all-loop-formula-preserved
learn_all-loop-formula-preserved l c = (
  λ w env kept hold.
      c.in_ok-learn.ensures.kept w env (c.loop-formula.invariant.0 w env kept hold) (hold_at w env c.args.formulas.now c.loop-formula.formula-index c.formula-item.result c.loop-formula-test.true c.formula-item.is hold),
  extends_both c.args.bounds.now.items c.loop-formula.bounds.items c.learn.new.bounds.items c.loop-formula.invariant.1 c.in_ok-learn.ensures.front,
)

pub learn_either-returns-clause-kept : goal.learn_either-returns-clause-kept
learn_either-returns-clause-kept l c w env kept e =
    let two : length c.args.parts.now ≡ 2 = omega arith in
    let here = subst (AreKept env) (sym c.in_ok-first.ensures.same) kept in
    let there = subst (AreKept env) (sym c.in_ok-second.ensures.same) here in
    c.widen.ensures.kept env there
    (⊎_elim (λ f. inl (subst (AreKept env) (sym c.as_slice.ensures.value) (c.in_ok-first.ensures.kept w env kept f))) (λ g. inr (subst (AreKept env) (sym c.as_slice-2.ensures.value) (c.in_ok-second.ensures.kept w env here g)))
    (one_holds w env c.args.parts.now c.index-parts-0.result c.index-parts-1.result two c.index-parts-0.is c.index-parts-1.is e))
