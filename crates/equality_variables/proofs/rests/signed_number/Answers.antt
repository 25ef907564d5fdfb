use Rattle.std.proofs.Common.{◌≡◌, true, false, sym, subst, ap, ◌∙◌}
use Rattle.std.specs.Prelude.{neg_ℤ, SomeIff, FitsSigned, MatchOption}
use Rattle.std.specs.Int.{w128}
use Rattle.std.proofs.lemmas.Int.{to_z-of_z}
use Rattle.qed_linear.specs.Linear.{fits}
use Rattle.term_forms.specs.Forms.{signed_number}
use Rattle.term_forms.proofs.Signed.{told_fit, fits_from}
use Rattle.equality_variables.proofs.rests.signed_number.Goals as goal

pub returns-then-plus : goal.returns-then-plus
returns-then-plus c =
    subst (λ b. MatchOption c.checked_neg.result (fits (signed_number b c.args.number) ≡ false) (λ z. (z ≡ signed_number b c.args.number) × (fits z ≡ true))) (sym c.if-plus.true) (told_fit (neg_ℤ c.args.number) c.checked_neg.result (subst (λ y. SomeIff c.checked_neg.result (FitsSigned w128 (neg_ℤ y)) (neg_ℤ y)) (to_z-of_z w128 c.args.number c.ranges.number) c.checked_neg.ensures))

pub returns-else-plus : goal.returns-else-plus
returns-else-plus c =
    let same = to_z-of_z w128 c.args.number c.ranges.number in
    (same ∙ ap (λ b. signed_number b c.args.number) (sym c.if-plus.false), ap fits same ∙ fits_from c.args.number c.ranges.number)
