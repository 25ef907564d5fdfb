-- The numbers between two ends.
use Rattle.std.proofs.Common.{◌≡◌, ◌⊎◌, ℕ, zero, suc, ◌+◌, ◌<◌, ◌≤◌, Bool, true, false, ◌&&◌, refl, sym, ap, subst, ◌∙◌, arith, ⊎_elim}
use Rattle.std.specs.Prelude.{ℤ, pos, negsuc, ◌+ℤ◌, ◌-ℤ◌, ◌||◌, ◌≤ℤ◌}
use Rattle.std.proofs.lemmas.Bool.{cases_Bool, and_parts, false≢true}
use Rattle.std.proofs.lemmas.Int.{ints}
use Rattle.wp_base.specs.Blocks.{to_nat}
use Rattle.qed_terms.specs.Meaning.{all_from, some_from}
use Rattle.c_runs.specs.TruthStates.{count_between, every_between, some_between}
use Rattle.c_runs.specs.Ranges.{One, RangesSay}

-- ---- so many numbers from one on

next : (z : ℤ) (k : ℕ) → (z +ℤ pos 1) +ℤ pos k ≡ z +ℤ pos (suc k)
next z k = omega (arith, ints)

here : (z : ℤ) → z +ℤ pos 0 ≡ z
here z = omega (arith, ints)

each_from : (test : ℤ → Bool) (n : ℕ) (z : ℤ) → all_from z n test ≡ true → (k : ℕ) → k < n → test (z +ℤ pos k) ≡ true
each_from test zero z h k lt = absurd (omega (arith, lt))
each_from test (suc n) z h zero lt = ap test (here z) ∙ (and_parts (test z) (all_from (z +ℤ pos 1) n test) h).0
each_from test (suc n) z h (suc k) lt = ap test (sym (next z k)) ∙ each_from test n (z +ℤ pos 1) (and_parts (test z) (all_from (z +ℤ pos 1) n test) h).1 k (omega (arith, lt))

both : (a b : Bool) → a ≡ true → b ≡ true → a && b ≡ true
both a b h g = rw (h, g) refl

all_of : (test : ℤ → Bool) (n : ℕ) (z : ℤ) → ((k : ℕ) → k < n → test (z +ℤ pos k) ≡ true) → all_from z n test ≡ true
all_of test zero z h = refl
all_of test (suc n) z h = both (test z) (all_from (z +ℤ pos 1) n test) (ap test (sym (here z)) ∙ h 0 (omega arith)) (all_of test n (z +ℤ pos 1) (λ k lt. ap test (next z k) ∙ h (suc k) (omega (arith, lt))))

-- one that passes, by its place
record Passes (test : ℤ → Bool) (n : ℕ) (z : ℤ) : Type 0 where
  place : ℕ
  inside : place < n
  passes : test (z +ℤ pos place) ≡ true

one_from : (test : ℤ → Bool) (n : ℕ) (z : ℤ) → some_from z n test ≡ true → Passes test n z
one_from test zero z h = absurd (false≢true h)
one_from test (suc n) z h =
    ⊎_elim
    (λ yes. record { place = 0; inside = omega arith; passes = ap test (here z) ∙ yes })
    (λ no. deeper (one_from test n (z +ℤ pos 1) (ap (λ b. b || some_from (z +ℤ pos 1) n test) (sym no) ∙ h)))
    (cases_Bool (test z))
  where
    deeper : Passes test n (z +ℤ pos 1) → Passes test (suc n) z
    deeper p = record { place = suc p.place; inside = omega (arith, p.inside); passes = ap test (sym (next z p.place)) ∙ p.passes }

or_first : (a b : Bool) → a ≡ true → a || b ≡ true
or_first a b h = rw h refl

or_second : (a b : Bool) → b ≡ true → a || b ≡ true
or_second true b h = refl
or_second false b h = h

some_of : (test : ℤ → Bool) (n : ℕ) (z : ℤ) (k : ℕ) → k < n → test (z +ℤ pos k) ≡ true → some_from z n test ≡ true
some_of test zero z k lt h = absurd (omega (arith, lt))
some_of test (suc n) z zero lt h = or_first (test z) (some_from (z +ℤ pos 1) n test) (ap test (sym (here z)) ∙ h)
some_of test (suc n) z (suc k) lt h = or_second (test z) (some_from (z +ℤ pos 1) n test) (some_of test n (z +ℤ pos 1) k (omega (arith, lt)) (ap test (next z k) ∙ h))

-- ---- between two ends

-- the place of a number
record Place (low high z : ℤ) : Type 0 where
  place : ℕ
  inside : place < count_between low high
  is : low +ℤ pos place ≡ z

place_by : (low high z d e : ℤ) → z -ℤ low ≡ d → high -ℤ low +ℤ pos 1 ≡ e → low ≤ℤ z → z ≤ℤ high → (k : ℕ) × (k < to_nat e) × (low +ℤ pos k ≡ z)
place_by low high z (pos k) (pos m) d_is e_is above below = (k, omega (arith, ints, d_is, e_is, above, below), omega (arith, ints, d_is))
place_by low high z (pos k) (negsuc m) d_is e_is above below = absurd (omega (arith, ints, d_is, e_is, above, below))
place_by low high z (negsuc k) e d_is e_is above below = absurd (omega (arith, ints, d_is, above))

place_of : (low high z : ℤ) → low ≤ℤ z → z ≤ℤ high → Place low high z
place_of low high z above below =
    let p = place_by low high z (z -ℤ low) (high -ℤ low +ℤ pos 1) refl refl above below in
    record { place = p.0; inside = p.1; is = p.2 }

-- a number with a place is between them
below_by : (low high e : ℤ) (k : ℕ) → high -ℤ low +ℤ pos 1 ≡ e → k < to_nat e → (low +ℤ pos k) ≤ℤ high
below_by low high (pos m) k is lt = omega (arith, ints, is, lt)
below_by low high (negsuc m) k is lt = absurd (omega (arith, ints, lt))

below_of : (low high : ℤ) (k : ℕ) → k < count_between low high → (low +ℤ pos k) ≤ℤ high
below_of low high k lt = below_by low high (high -ℤ low +ℤ pos 1) k refl lt

above_of : (low : ℤ) (k : ℕ) → low ≤ℤ (low +ℤ pos k)
above_of low k = omega (arith, ints)

one_of : (low high : ℤ) (test : ℤ → Bool) → Passes test (count_between low high) low → One low high test
one_of low high test p = record { number = low +ℤ pos p.place; above = above_of low p.place; below = below_of low high p.place p.inside; passes = p.passes }

some_at : (low high : ℤ) (test : ℤ → Bool) (o : One low high test) → Place low high o.number → some_between low high test ≡ true
some_at low high test o p = some_of test (count_between low high) low p.place p.inside (ap test p.is ∙ o.passes)

pub ranges_say : RangesSay
ranges_say = record {
  each = λ low high test h z above below.
      (λ (p : Place low high z). ap test (sym p.is) ∙ each_from test (count_between low high) low h p.place p.inside) (place_of low high z above below);
  all = λ low high test h. all_of test (count_between low high) low (λ k lt. h (low +ℤ pos k) (above_of low k) (below_of low high k lt));
  one = λ low high test h. one_of low high test (one_from test (count_between low high) low h);
  some = λ low high test o. some_at low high test o (place_of low high o.number o.above o.below);
}
