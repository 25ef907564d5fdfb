-- Small facts on tests and numbers.
use Rattle.std.proofs.Common.{◌≡◌, ℕ, zero, suc, ◌*◌, ◌≤◌, Bool, true, false, ◌&&◌, ℤ, pos, negsuc, ◌-ℤ◌, ◌*ℤ◌, unsigned_abs, refl, arith}
use Rattle.std.proofs.lemmas.Int.{ints, unsigned_abs-mul}
use Rattle.qed_terms.specs.Operators.{is_zero, is_equal}

pub and_left : (p q : Bool) → p && q ≡ true → p ≡ true
and_left true q k = refl
and_left false q k = k

pub and_right : (p q : Bool) → p && q ≡ true → q ≡ true
and_right true q k = k
and_right false q k = absurd cc

pub zero_is : (z : ℤ) → is_zero z ≡ true → z ≡ pos 0
zero_is (pos zero) k = refl
zero_is (pos (suc n)) k = absurd cc
zero_is (negsuc n) k = absurd cc

pub equal_is : (a b : ℤ) → is_equal a b ≡ true → a ≡ b
equal_is a b k = omega (arith, ints, zero_is (a -ℤ b) k)

pub some_size : (z : ℤ) → is_zero z ≡ false → 1 ≤ unsigned_abs z
some_size (pos zero) k = absurd cc
some_size (pos (suc n)) k = omega arith
some_size (negsuc n) k = omega arith

pub sized : (z : ℤ) → 1 ≤ unsigned_abs z → is_zero z ≡ false
sized (pos zero) k = absurd (omega arith)
sized (pos (suc n)) k = refl
sized (negsuc n) k = refl

pos_mul : (x y : ℕ) → 1 ≤ x → 1 ≤ y → 1 ≤ x * y
pos_mul zero y k l = absurd (omega arith)
pos_mul (suc m) zero k l = absurd (omega arith)
pos_mul (suc m) (suc n) k l = omega arith

pub no_zero : (a b : ℤ) → is_zero a ≡ false → is_zero b ≡ false → is_zero (a *ℤ b) ≡ false
no_zero a b k l = sized (a *ℤ b) (omega (arith, unsigned_abs-mul a b, pos_mul (unsigned_abs a) (unsigned_abs b) (some_size a k) (some_size b l)))
