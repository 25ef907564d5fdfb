-- Division of integers rounds towards 0.
use Rattle.std.proofs.Common.{◌≡◌, ◌<◌, ℕ, zero, suc, Bool, true, false, refl, sym, ap, ◌∙◌, arith}
use Rattle.std.specs.Prelude.{ℤ, pos, negsuc, unsigned_abs, int_rem, int_div}
use Rattle.std.proofs.lemmas.Int.{quot-rem, rem_below}
use Rattle.qed_terms.specs.Operators.{is_zero, quotient, remainder, HasSignOf, Divides, DivisionTruncates}

abs_positive : (b : ℤ) → is_zero b ≡ false → 0 < unsigned_abs b
abs_positive (pos zero) h = absurd cc
abs_positive (pos (suc n)) h = omega arith
abs_positive (negsuc n) h = omega arith

sign_of : (a b : ℤ) → HasSignOf a (int_rem a b)
sign_of (pos n) b = (_, refl)
sign_of (negsuc n) b = (_, refl)

pub division_truncates : DivisionTruncates
division_truncates a b h = record {
  whole = rw h (quot-rem a b);
  smaller = rw h (rem_below a b (abs_positive b h));
  sign = rw h (sign_of a b);
}
