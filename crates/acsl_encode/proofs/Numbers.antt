-- Operators of terms on numbers, in the words of annotations.
use Rattle.std.proofs.Common.{◌≡◌, Bool, true, false, cond, refl, ap, arith}
use Rattle.std.specs.Prelude.{ℤ, pos, negsuc, ◌+ℤ◌, ◌-ℤ◌, ◌*ℤ◌, neg_ℤ}
use Rattle.std.proofs.lemmas.Int.{ints}
use Rattle.std.proofs.Math.IntN.{*ℤ-one, one}
use Rattle.c_runs.specs.TruthStates.{number, truth, is_true}
use Rattle.qed_terms.specs.Operators.{is_zero, is_equal, quotient}

pub sum_two : (a b : ℤ) → a +ℤ (b +ℤ pos 0) ≡ a +ℤ b
sum_two a b = omega (arith, ints)

pub product_two : (a b : ℤ) → a *ℤ (b *ℤ pos 1) ≡ a *ℤ b
unfolding one
product_two a b = ap (λ c. a *ℤ c) (*ℤ-one b)

pub neg_is : (a : ℤ) → neg_ℤ a ≡ pos 0 -ℤ a
neg_is a = omega (arith, ints)

pub back_is : (o a : ℤ) → o +ℤ neg_ℤ a ≡ o -ℤ a
back_is o a = omega (arith, ints)

pub one_times : (a : ℤ) → pos 1 *ℤ a ≡ a
one_times a = omega (arith, ints)

pub none_more : (o : ℤ) → o +ℤ pos 0 ≡ o
none_more o = omega (arith, ints)

pub by_one : (a : ℤ) → quotient a (pos 1) ≡ a
by_one (pos n) = grind (arith, ints)
by_one (negsuc n) = grind (arith, ints)

pub minus_zero : (z : ℤ) → is_equal z (pos 0) ≡ is_zero z
minus_zero z = let e : z -ℤ pos 0 ≡ z = omega (arith, ints) in ap is_zero e

-- a truth as a number, and back
pub truth_is : (b : Bool) → truth b ≡ number (cond b (pos 1) (pos 0))
truth_is true = refl
truth_is false = refl

pub is_true_truth : (b : Bool) → is_true (truth b) ≡ b
is_true_truth true = refl
is_true_truth false = refl
