use Rattle.std.proofs.Common.{◌≡◌, pos, ◌+ℤ◌, int_div, sym, ◌∙◌, ap, subst, arith, rules, FitsSigned}
use Rattle.std.specs.Int.{w128}
use Rattle.std.proofs.lemmas.Int.{to_z-of_z}
use Rattle.qed_linear.specs.Linear.{rounded_up}
use Rattle.qed_linear.proofs.Divisors.{up_fits}
use Rattle.qed_linear.proofs.SumSteps.{fits_from, fits_back}
use Rattle.qed_linear.proofs.Rounding.{lt_fact, not_above, up_low, up_none, up_exact, up_more}
use Rattle.qed_linear.proofs.divide.rounded_up.Goals as goal
use Rattle.qed_linear.proofs.divide.rounded_up.Goals.{else-value-gt0-via-then-value-gt0+then-by-gt0+else-not-divides, else-value-gt0-via-then-value-gt0+else-by-gt0, else-value-gt0-via-else-value-gt0}

pub returns-then-not-divides : goal.returns-then-not-divides
returns-then-not-divides c =
    let z = c.args.value in
    let by = c.args.by in
    let q = c.quotient-down.result in
    let value : FitsSigned w128 z = search rules in
    let quotient : FitsSigned w128 q = search rules in
    let e = to_z-of_z w128 z value in
    let m = rw e at c.quotient-down.ensures in
    let d = sym (rw e at c.divides.ensures) ∙ c.if-not-divides.true in
    let up = up_more by z c.if-by-gt0.true (lt_fact (pos 0) z (rw e at c.if-value-gt0.true)) d in
    let same = ap (λ x. x +ℤ pos 1) m ∙ sym up in
    let sum = subst (FitsSigned w128) (sym same) (fits_back (rounded_up by z) (up_fits z by c.if-by-gt0.true (fits_from z value))) in
    rw (to_z-of_z w128 q quotient) (to_z-of_z w128 (q +ℤ pos 1) sum ∙ same)

pub returns-else-value-gt0 : goal.returns-else-value-gt0
returns-else-value-gt0 c =
    let z = c.args.value in
    let by = c.args.by in
    let q = c.quotient-down.result in
    let value : FitsSigned w128 z = search rules in
    let quotient : FitsSigned w128 q = search rules in
    let e = to_z-of_z w128 z value in
    let m = rw e at c.quotient-down.ensures in
    let k = to_z-of_z w128 q quotient ∙ m in
    elim c.else-value-gt0.branch [
      | else-value-gt0-via-then-value-gt0+then-by-gt0+else-not-divides w ↦ k ∙ sym (up_exact by z w.if-by-gt0.true (sym (rw e at w.divides.ensures) ∙ w.if-not-divides.false))
      | else-value-gt0-via-then-value-gt0+else-by-gt0 w ↦
          let n : by ≡ 0 = omega arith in
          k ∙ sym (ap (λ d. rounded_up d z) n ∙ up_none z ∙ ap (λ d. int_div z (pos d)) (sym n))
      | else-value-gt0-via-else-value-gt0 w ↦ k ∙ sym (up_low by z (not_above z (rw e at w.if-value-gt0.false)))
    ]
