-- What fits 128 bits.
use Rattle.std.proofs.Common.{◌≡◌, false, cond, zero, suc, ℤ, pos, negsuc, refl, sym, ◌∙◌, ap, arith, FitsSigned}
use Rattle.std.specs.Prelude.{Option, Some, None, SomeIff, int_div}
use Rattle.std.specs.Int.{w128, CanDivide, IsNonZero}
use Rattle.qed_terms.specs.Operators.{is_zero, quotient}
use Rattle.qed_linear.specs.Linear.{fits}
use Rattle.qed_linear.proofs.SumSteps.{fits_from, unfit}
use Rattle.qed_numbers.specs.Numbers.{of_two, fitted}

pub fitted_is : (o : Option ℤ) (z : ℤ) → SomeIff o (FitsSigned w128 z) z → o ≡ fitted (Some z)
fitted_is None z k = sym (ap (λ b. cond b (Some z) None) (unfit z k))
fitted_is (Some x) z k = ap Some (k.1) ∙ sym (ap (λ b. cond b (Some z) None) (fits_from z k.0))

pub fitted_some : (z : ℤ) → FitsSigned w128 z → Some z ≡ fitted (Some z)
fitted_some z f = sym (ap (λ b. cond b (Some z) None) (fits_from z f))

pub quotient_by_zero : (a b : ℤ) → b ≡ pos 0 → Some (pos 0) ≡ fitted (Some (quotient a b))
unfolding fits
quotient_by_zero a b e = sym (ap (λ z. fitted (Some (quotient a z))) e)

quotient_by_some : (a b : ℤ) → is_zero b ≡ false → quotient a b ≡ int_div a b
quotient_by_some a b e = ap (λ c. cond c (pos 0) (int_div a b)) e

non_zero : (b : ℤ) → FitsSigned w128 b → (b ≡ pos 0 → ⊥) → IsNonZero w128 b
non_zero (pos zero) f k = absurd (k refl)
non_zero (pos (suc n)) f k = omega arith
non_zero (negsuc n) f k = let l = f.sfits in omega (arith, l)

not_zero : (b : ℤ) → (b ≡ pos 0 → ⊥) → is_zero b ≡ false
not_zero (pos zero) k = absurd (k refl)
not_zero (pos (suc n)) k = refl
not_zero (negsuc n) k = refl

-- what a division that may refuse answers
pub quotient_is : (o : Option ℤ) (a b : ℤ) → FitsSigned w128 b → (b ≡ pos 0 → ⊥) → SomeIff o (CanDivide w128 a b) (int_div a b) → o ≡ fitted (Some (quotient a b))
quotient_is None a b f n k = fitted_is None (int_div a b) (λ g. k (non_zero b f n, g)) ∙ ap (λ z. fitted (Some z)) (sym (quotient_by_some a b (not_zero b n)))
quotient_is (Some x) a b f n k = fitted_is (Some x) (int_div a b) (k.0.1, k.1) ∙ ap (λ z. fitted (Some z)) (sym (quotient_by_some a b (not_zero b n)))

pub two_fitted : (f : ℤ → ℤ → ℤ) (left right : Option ℤ) (a b r : ℤ) → left ≡ Some a → right ≡ Some b → r ≡ f a b → FitsSigned w128 r → Some r ≡ fitted (of_two f left right)
two_fitted f left right a b r p q e g = fitted_some r g ∙ ap (λ z. fitted (Some z)) e ∙ (λ i. fitted (of_two f (sym p i) (sym q i)))
