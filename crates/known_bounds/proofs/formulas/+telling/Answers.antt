use Rattle.std.proofs.Common.{true, ap, ◌∙◌, sym}
use Rattle.known_bounds.specs.Bounds.{formula_truth}
use Rattle.known_bounds.proofs.Values.{always_true, of_relation, of_opposite, of_parts, hold_more, hold_whole}
use Rattle.known_bounds.proofs.formulas.+telling.Goals as goal

pub are_told-loop-formula-preserved : goal.are_told-loop-formula-preserved
are_told-loop-formula-preserved l c w env kept =
    hold_more w env c.args.formulas.now c.loop-formula.formula-index c.formula-item.result c.loop-formula-test.true c.formula-item.is (c.loop-formula.invariant w env kept) (c.is_told.ensures c.if-not-is_told.false w env kept)

pub are_told-returns : goal.are_told-returns
are_told-returns l c so w env kept = hold_whole w env c.args.formulas.now c.loop-formula.formula-index c.loop-formula-test.false (c.loop-formula.invariant w env kept)

pub is_told-returns-in-True : goal.is_told-returns-in-True
is_told-returns-in-True l c so w env kept = ap (formula_truth w env) c.in-True.is ∙ always_true w env

pub is_told-returns-in-Rel : goal.is_told-returns-in-Rel
is_told-returns-in-Rel l c so w env kept =
    of_relation w env c.args.formula.now c.in-Rel.op c.in-Rel.terms c.as_slice.result.now true c.in-Rel.is c.as_slice.ensures (c.is_relation_told.ensures so w env kept)

pub is_told-returns-in-Not : goal.is_told-returns-in-Not
is_told-returns-in-Not l c so w env kept = of_opposite w env c.args.formula.now c.in-Not.part c.get.result.now c.in-Not.is c.get.ensures (c.is_opposite_told.ensures so w env kept)

pub is_told-returns-in-And : goal.is_told-returns-in-And
is_told-returns-in-And l c so w env kept = of_parts w env c.args.formula.now c.in-And.parts c.as_slice-in-And.result.now c.in-And.is c.as_slice-in-And.ensures (c.are_told.ensures so w env kept)
