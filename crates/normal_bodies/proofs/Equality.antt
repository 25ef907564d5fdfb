-- Two numbers are equal where their difference is 0.
use Rattle.std.proofs.Common.{◌≡◌, zero, suc, ℤ, pos, negsuc, ◌-ℤ◌, true, refl, ap, sym, arith}
use Rattle.std.specs.Ordering.{int_eq}
use Rattle.std.proofs.lemmas.Int.{ints}
use Rattle.std.proofs.lemmas.Bool.Decides.{Decides-int_eq, same_from_decides}
use Rattle.qed_terms.specs.Operators.{is_zero, is_equal}

zero_when : (z : ℤ) → is_zero z ≡ true → z ≡ pos 0
zero_when (pos zero) h = refl
zero_when (pos (suc n)) h = absurd cc
zero_when (negsuc n) h = absurd cc

pub same_number : (a b : ℤ) → int_eq a b ≡ is_equal a b
same_number a b =
    sym (same_from_decides (is_equal a b) (int_eq a b)
    ((λ h. let e = zero_when (a -ℤ b) h in omega (arith, ints, e)), (λ e. let z : (a -ℤ b) ≡ pos 0 = omega (arith, ints, e) in ap is_zero z))
    (Decides-int_eq a b))
