-- Comparisons of a difference with 0.
use Rattle.std.proofs.Common.{◌≡◌, zero, suc, Bool, true, false, not, int_le, int_lt, ◌≤ℤ◌, ◌<ℤ◌, ℤ, pos, negsuc, ◌+ℤ◌, ◌-ℤ◌, refl, ap, arith}
use Rattle.std.proofs.lemmas.Int.{ints}
use Rattle.qed_terms.specs.Operators.{is_zero}
use Rattle.qed_linear.proofs.Rounding.{same_le, lt_test, lt_fact, le_test, le_fact, same_tests}

pub le_difference : (a b : ℤ) → int_le (a -ℤ b) (pos 0) ≡ int_le a b
le_difference a b = same_le (a -ℤ b) (pos 0) a b (λ k. omega (arith, ints, k)) (λ k. omega (arith, ints, k))

pub lt_more : (a b : ℤ) → int_le (a +ℤ pos 1) b ≡ int_lt a b
lt_more a b =
    same_tests (int_le (a +ℤ pos 1) b) (int_lt a b)
    (λ k. let e = le_fact (a +ℤ pos 1) b k in lt_test a b (omega (arith, ints, e)))
    (λ k. let e = lt_fact a b k in le_test (a +ℤ pos 1) b (omega (arith, ints, e)))

-- a <= 0 fails exactly where 1 - a <= 0
pub not_le : (a : ℤ) → int_le (pos 1 -ℤ a) (pos 0) ≡ not (int_le a (pos 0))
not_le a = go (int_le a (pos 0)) (int_le (pos 1 -ℤ a) (pos 0)) refl refl
  where
    none : a ≤ℤ pos 0 → (pos 1 -ℤ a) ≤ℤ pos 0 → ⊥
    none k l = omega (arith, ints, k, l)

    go : (x y : Bool) → int_le a (pos 0) ≡ x → int_le (pos 1 -ℤ a) (pos 0) ≡ y → y ≡ not x
    go true true p q = absurd (none (le_fact a (pos 0) p) (le_fact (pos 1 -ℤ a) (pos 0) q))
    go true false p q = refl
    go false true p q = refl
    go false false p q = absurd (neither (above a p) (above (pos 1 -ℤ a) q))
      where
        above : (x : ℤ) → int_le x (pos 0) ≡ false → pos 0 <ℤ x
        above (pos zero) k = absurd cc
        above (pos (suc n)) k = omega (arith, ints)
        above (negsuc n) k = absurd cc

        neither : pos 0 <ℤ a → pos 0 <ℤ (pos 1 -ℤ a) → ⊥
        neither k l = omega (arith, ints, k, l)

pub zero_less : (a : ℤ) → is_zero (a -ℤ pos 0) ≡ is_zero a
zero_less a = let e : a -ℤ pos 0 ≡ a = omega (arith, ints) in ap is_zero e
