-- Numbers of variables: between which a statement declares them, and which of them are in scope.
use Rattle.std.proofs.Common.{◌≡◌, ℕ, suc, ◌<◌, ◌≤◌, Bool, true, false, not, ◌&&◌, ◌||◌, List, [], ◌∷◌, ◌++◌, refl, ap, ◌∙◌, arith, inl, inr}
use Rattle.std.specs.Prelude.{◌⊎◌, nat_le, nat_lt, ◌==◌}
use Rattle.std.proofs.lemmas.Bool.{false≢true}
use Rattle.std.proofs.lemmas.Bool.Decides.{nat_tests}
use Rattle.plain_runs.specs.Fitting.{with_name, with_names}
use Rattle.plain_programs.specs.Standing.{are_new}

pub both : (a b : Bool) → a ≡ true → b ≡ true → (a && b) ≡ true
both true b h k = k
both false b h k = h

pub on_test : (b : Bool) (P : Type 0) → (b ≡ true → P) → (b ≡ false → P) → P
on_test true P f g = f refl
on_test false P f g = g refl

-- ---- tests on numbers

pub at_most : (n m : ℕ) → n ≤ m → nat_le n m ≡ true
at_most n m h = grind (arith, nat_tests, h)

pub below : (n m : ℕ) → n < m → nat_lt n m ≡ true
below n m h = grind (arith, nat_tests, h)

pub not_below : (n m : ℕ) → m ≤ n → nat_lt n m ≡ false
not_below n m h = grind (arith, nat_tests, h)

are_equal : (y z : ℕ) → (y == z) ≡ true → y ≡ z
are_equal y z h = grind (arith, nat_tests, h)

differ : (y z : ℕ) → y < z → (y == z) ≡ false
differ y z h = grind (arith, nat_tests, h)

-- ---- lists of numbers

abbrev pub In : ℕ → List ℕ → Type 0
In z [] = ⊥
In z (y ∷ ys) = (y ≡ z) ⊎ In z ys

pub in_one_of : (z : ℕ) (xs ys : List ℕ) → In z (xs ++ ys) → In z xs ⊎ In z ys
in_one_of z [] ys h = inr h
in_one_of z (x ∷ xs) ys (inl e) = inl (inl e)
in_one_of z (x ∷ xs) ys (inr h) = by (in_one_of z xs ys h) where
  by : In z xs ⊎ In z ys → ((x ≡ z) ⊎ In z xs) ⊎ In z ys
  by (inl k) = inl (inr k)
  by (inr k) = inr k

pub in_first : (z : ℕ) (xs ys : List ℕ) → In z xs → In z (xs ++ ys)
in_first z [] ys h = elim h [ ]
in_first z (x ∷ xs) ys (inl e) = inl e
in_first z (x ∷ xs) ys (inr h) = inr (in_first z xs ys h)

pub in_second : (z : ℕ) (xs ys : List ℕ) → In z ys → In z (xs ++ ys)
in_second z [] ys h = h
in_second z (x ∷ xs) ys h = inr (in_second z xs ys h)

-- they go up, from this number on and below that one
abbrev pub Between : (low : ℕ) → List ℕ → (high : ℕ) → Type 0
Between n [] m = n ≤ m
Between n (y ∷ ys) m = (n ≤ y) × Between (suc y) ys m

pub no_more : (n m : ℕ) (ys : List ℕ) → Between n ys m → n ≤ m
no_more n m [] h = h
no_more n m (y ∷ ys) h = omega (arith, h.0, no_more (suc y) m ys h.1)

pub in_between : (n m : ℕ) (ys : List ℕ) (z : ℕ) → Between n ys m → In z ys → (n ≤ z) × (z < m)
in_between n m [] z h i = elim i [ ]
in_between n m (y ∷ ys) z h (inl e) = let k = no_more (suc y) m ys h.1 in (omega (arith, h.0, e), omega (arith, k, e))
in_between n m (y ∷ ys) z h (inr i) = let r = in_between (suc y) m ys z h.1 i in (omega (arith, h.0, r.0), r.1)

pub from_lower : (k n m : ℕ) (ys : List ℕ) → k ≤ n → Between n ys m → Between k ys m
from_lower k n m [] le h = omega (arith, le, h)
from_lower k n m (y ∷ ys) le h = (omega (arith, le, h.0), h.1)

pub one_behind : (n k m : ℕ) (xs ys : List ℕ) → Between n xs k → Between k ys m → Between n (xs ++ ys) m
one_behind n k m [] ys h i = from_lower n k m ys h i
one_behind n k m (x ∷ xs) ys h i = (h.0, one_behind (suc x) k m xs ys h.1 i)

-- ---- what blocks declare

pub added : (ys : List ℕ) (f : ℕ → Bool) (z : ℕ) → f z ≡ true → with_names ys f z ≡ true
added [] f z h = h
added (y ∷ ys) f z h = added ys (with_name y f) z (or_right (y == z) (f z) h) where
  or_right : (a b : Bool) → b ≡ true → (a || b) ≡ true
  or_right true b h = refl
  or_right false b h = h

pub added_own : (ys : List ℕ) (f : ℕ → Bool) (z : ℕ) → In z ys → with_names ys f z ≡ true
added_own [] f z h = elim h [ ]
added_own (y ∷ ys) f z (inl e) = added ys (with_name y f) z (or_left (y == z) (f z) (same y z e)) where
  or_left : (a b : Bool) → a ≡ true → (a || b) ≡ true
  or_left true b h = refl
  or_left false b h = absurd (false≢true h)

  same : (a b : ℕ) → a ≡ b → (a == b) ≡ true
  same a b e = grind (arith, nat_tests, e)
added_own (y ∷ ys) f z (inr h) = added_own ys (with_name y f) z h

pub others_same : (ys : List ℕ) (f : ℕ → Bool) (z : ℕ) → f z ≡ false → (with_names ys f z ≡ false) ⊎ In z ys
others_same [] f z h = inl h
others_same (y ∷ ys) f z h =
    on_test (y == z) ((with_names ys (with_name y f) z ≡ false) ⊎ ((y ≡ z) ⊎ In z ys)) (λ e. inr (inl (are_equal y z e)))
    (λ e. by (others_same ys (with_name y f) z (ap (λ b. b || f z) e ∙ h))) where
      by : (with_names ys (with_name y f) z ≡ false) ⊎ In z ys → (with_names ys (with_name y f) z ≡ false) ⊎ ((y ≡ z) ⊎ In z ys)
      by (inl k) = inl k
      by (inr k) = inr (inr k)

-- a block declares new variables, each once
pub are_new_between : (count low n : ℕ) (f : ℕ → Bool) (ys : List ℕ) (m : ℕ) → Between n ys m → low ≤ n → m ≤ count → ((z : ℕ) → n ≤ z → In z ys → f z ≡ false) → are_new count f low ys ≡ true
are_new_between count low n f [] m h le within new = refl
are_new_between count low n f (y ∷ ys) m h le within new =
    let k = no_more (suc y) m ys h.1 in
    both (not (f y)) (nat_le low y && (nat_lt y count && are_new count (with_name y f) low ys)) (ap not (new y h.0 (inl refl)))
    (both (nat_le low y) (nat_lt y count && are_new count (with_name y f) low ys) (at_most low y (omega (arith, le, h.0)))
    (both (nat_lt y count) (are_new count (with_name y f) low ys) (below y count (omega (arith, k, within)))
    (are_new_between count low (suc y) (with_name y f) ys m h.1 (omega (arith, le, h.0)) within
    (λ z above i. ap (λ b. b || f z) (differ y z (omega (arith, above))) ∙ new z (omega (arith, above, h.0)) (inr i)))))
