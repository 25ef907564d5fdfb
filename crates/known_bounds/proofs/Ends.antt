-- Sums, differences and orders of numbers, each in a range.
use Rattle.std.proofs.Common.{◌≡◌, ℤ, pos, ◌+ℤ◌, ◌-ℤ◌, ◌≤ℤ◌, ◌<ℤ◌, Bool, true, false, Option, Some, None, refl, arith}
use Rattle.std.proofs.lemmas.Int.{ints}
use Rattle.known_bounds.specs.Ranges.{IsFrom, IsUpTo, IsOrdered, EndOf}

-- ---- ends of sums and differences

pub added_from : (l r m : Option ℤ) → EndOf (λ a b. a +ℤ b) l r m → (a b : ℤ) → IsFrom l a → IsFrom r b → IsFrom m (a +ℤ b)
added_from l r None e a b h k = tt
added_from None r (Some c) e a b h k = absurd e
added_from (Some x) None (Some c) e a b h k = absurd e
added_from (Some x) (Some y) (Some c) e a b h k = omega (arith, ints, e, h, k)

pub added_up : (l r m : Option ℤ) → EndOf (λ a b. a +ℤ b) l r m → (a b : ℤ) → IsUpTo l a → IsUpTo r b → IsUpTo m (a +ℤ b)
added_up l r None e a b h k = tt
added_up None r (Some c) e a b h k = absurd e
added_up (Some x) None (Some c) e a b h k = absurd e
added_up (Some x) (Some y) (Some c) e a b h k = omega (arith, ints, e, h, k)

pub taken_from : (l r m : Option ℤ) → EndOf (λ a b. a -ℤ b) l r m → (a b : ℤ) → IsFrom l a → IsUpTo r b → IsFrom m (a -ℤ b)
taken_from l r None e a b h k = tt
taken_from None r (Some c) e a b h k = absurd e
taken_from (Some x) None (Some c) e a b h k = absurd e
taken_from (Some x) (Some y) (Some c) e a b h k = omega (arith, ints, e, h, k)

pub taken_up : (l r m : Option ℤ) → EndOf (λ a b. a -ℤ b) l r m → (a b : ℤ) → IsUpTo l a → IsFrom r b → IsUpTo m (a -ℤ b)
taken_up l r None e a b h k = tt
taken_up None r (Some c) e a b h k = absurd e
taken_up (Some x) None (Some c) e a b h k = absurd e
taken_up (Some x) (Some y) (Some c) e a b h k = omega (arith, ints, e, h, k)

-- ---- one less or one more

pub one_less : (l m : Option ℤ) → EndOf (λ a b. a -ℤ b) l (Some (pos 1)) m → (a b : ℤ) → a <ℤ b → IsUpTo l b → IsUpTo m a
one_less l None e a b o h = tt
one_less None (Some c) e a b o h = absurd e
one_less (Some x) (Some c) e a b o h = omega (arith, ints, e, o, h)

pub one_more : (l m : Option ℤ) → EndOf (λ a b. a +ℤ b) l (Some (pos 1)) m → (a b : ℤ) → a <ℤ b → IsFrom l a → IsFrom m b
one_more l None e a b o h = tt
one_more None (Some c) e a b o h = absurd e
one_more (Some x) (Some c) e a b o h = omega (arith, ints, e, o, h)

pub at_most : (l : Option ℤ) (a b : ℤ) → a ≤ℤ b → IsUpTo l b → IsUpTo l a
at_most None a b o h = tt
at_most (Some x) a b o h = omega (arith, ints, o, h)

pub at_least : (l : Option ℤ) (a b : ℤ) → a ≤ℤ b → IsFrom l a → IsFrom l b
at_least None a b o h = tt
at_least (Some x) a b o h = omega (arith, ints, o, h)

-- ---- numbers in their order

pub one_number : (a b : ℤ) → a ≤ℤ b → b ≤ℤ a → a ≡ b
one_number a b h k = omega (arith, ints, h, k)

pub not_below : (a b : ℤ) → a <ℤ b → a ≡ b → ⊥
not_below a b h e = omega (arith, ints, h, e)

pub not_above : (a b : ℤ) → b <ℤ a → a ≡ b → ⊥
not_above a b h e = omega (arith, ints, h, e)
