use Rattle.std.proofs.Common.{◌&&◌, ◌+◌, length, sym, ◌∙◌, ap, arith}
use Rattle.qed_rules.proofs.FormulaPasses.{UnquantifiedFrom, unquantified_next}
use Rattle.qed_rules.proofs.turns.+is_unquantified.Goals as goal

pub are_unquantified-returns-then-not-is_unquantified : goal.are_unquantified-returns-then-not-is_unquantified
are_unquantified-returns-then-not-is_unquantified t c =
    let xs = c.args.formulas.now in
    let i = c.loop-formula.formula-index in
    let e = ap length c.as_slice-formula-items.ensures in
    let next = unquantified_next xs i c.formula-item.result c.is_unquantified.result (omega (arith, e, c.loop-formula-test.true)) (rw c.as_slice-formula-items.ensures at c.formula-item.is) c.is_unquantified.ensures in
    sym (c.loop-formula.invariant ∙ next ∙ ap (λ b. b && UnquantifiedFrom xs (i + 1)) c.if-not-is_unquantified.true)

pub are_unquantified-loop-formula-preserved : goal.are_unquantified-loop-formula-preserved
are_unquantified-loop-formula-preserved t c =
    let xs = c.args.formulas.now in
    let i = c.loop-formula.formula-index in
    let e = ap length c.as_slice-formula-items.ensures in
    let next = unquantified_next xs i c.formula-item.result c.is_unquantified.result (omega (arith, e, c.loop-formula-test.true)) (rw c.as_slice-formula-items.ensures at c.formula-item.is) c.is_unquantified.ensures in
    c.loop-formula.invariant ∙ next ∙ ap (λ b. b && UnquantifiedFrom xs (i + 1)) c.if-not-is_unquantified.false
