-- To reach a function is transitive.
use Rattle.std.proofs.Common.{◌≡◌, ℕ, zero, suc, ◌<◌, Bool, true, false, ◌&&◌, ◌||◌, ◌⊎◌, inl, inr, refl, ap, ◌∙◌, subst, arith}
use Rattle.c_programs.specs.Clusters.{reaches_through}

-- ---- tests

pub or_cases : (a b : Bool) → (a || b) ≡ true → (a ≡ true) ⊎ (b ≡ true)
or_cases true b h = inl refl
or_cases false b h = inr h

pub and_left : (a b : Bool) → (a && b) ≡ true → a ≡ true
and_left true b h = refl
and_left false b h = h

pub and_right : (a b : Bool) → (a && b) ≡ true → b ≡ true
and_right true b h = h
and_right false b h = cc

or_first : (a b : Bool) → a ≡ true → (a || b) ≡ true
or_first true b h = refl
or_first false b h = cc

or_second : (a b : Bool) → b ≡ true → (a || b) ≡ true
or_second true b h = refl
or_second false b h = h

pub and_both : (a b : Bool) → a ≡ true → b ≡ true → (a && b) ≡ true
and_both true b h k = k
and_both false b h k = cc

-- ---- through functions of lower numbers

module _ (d : ℕ → ℕ → Bool) where
  abbrev Closed : ℕ → Type 0
  Closed k = (a b c : ℕ) → b < k → reaches_through d k a b ≡ true → reaches_through d k b c ≡ true → reaches_through d k a c ≡ true

  -- at its own number nothing is new
  to_own : (k a : ℕ) → reaches_through d (suc k) a k ≡ true → reaches_through d k a k ≡ true
  to_own k a h = by (or_cases (reaches_through d k a k) (reaches_through d k a k && reaches_through d k k k) h)
    where
      by : (reaches_through d k a k ≡ true) ⊎ ((reaches_through d k a k && reaches_through d k k k) ≡ true) → reaches_through d k a k ≡ true
      by (inl p) = p
      by (inr p) = and_left (reaches_through d k a k) (reaches_through d k k k) p

  from_own : (k c : ℕ) → reaches_through d (suc k) k c ≡ true → reaches_through d k k c ≡ true
  from_own k c h = by (or_cases (reaches_through d k k c) (reaches_through d k k k && reaches_through d k k c) h)
    where
      by : (reaches_through d k k c ≡ true) ⊎ ((reaches_through d k k k && reaches_through d k k c) ≡ true) → reaches_through d k k c ≡ true
      by (inl p) = p
      by (inr p) = and_right (reaches_through d k k k) (reaches_through d k k c) p

  pub directly : (k a c : ℕ) → reaches_through d k a c ≡ true → reaches_through d (suc k) a c ≡ true
  directly k a c h = or_first (reaches_through d k a c) (reaches_through d k a k && reaches_through d k k c) h

  by_own : (k a c : ℕ) → reaches_through d k a k ≡ true → reaches_through d k k c ≡ true → reaches_through d (suc k) a c ≡ true
  by_own k a c to from =
      or_second (reaches_through d k a c) (reaches_through d k a k && reaches_through d k k c) (and_both (reaches_through d k a k) (reaches_through d k k c) to from)

  through_lower : (k a b c : ℕ) → Closed k → b < k
      → (reaches_through d k a b ≡ true) ⊎ ((reaches_through d k a k && reaches_through d k k b) ≡ true)
      → (reaches_through d k b c ≡ true) ⊎ ((reaches_through d k b k && reaches_through d k k c) ≡ true) → reaches_through d (suc k) a c ≡ true
  through_lower k a b c closed lt (inl p) (inl q) = directly k a c (closed a b c lt p q)
  through_lower k a b c closed lt (inl p) (inr q) =
      by_own k a c (closed a b k lt p (and_left (reaches_through d k b k) (reaches_through d k k c) q)) (and_right (reaches_through d k b k) (reaches_through d k k c) q)
  through_lower k a b c closed lt (inr p) (inl q) =
      by_own k a c (and_left (reaches_through d k a k) (reaches_through d k k b) p) (closed k b c lt (and_right (reaches_through d k a k) (reaches_through d k k b) p) q)
  through_lower k a b c closed lt (inr p) (inr q) =
      by_own k a c (and_left (reaches_through d k a k) (reaches_through d k k b) p) (and_right (reaches_through d k b k) (reaches_through d k k c) q)

  below_or_own : (b k : ℕ) → b < suc k → (b < k) ⊎ (b ≡ k)
  below_or_own b k lt = grind arith

  one_more : (k : ℕ) → Closed k → Closed (suc k)
  one_more k closed a b c lt p q = by (below_or_own b k lt)
    where
      by : (b < k) ⊎ (b ≡ k) → reaches_through d (suc k) a c ≡ true
      by (inl less) =
          through_lower k a b c closed less (or_cases (reaches_through d k a b) (reaches_through d k a k && reaches_through d k k b) p)
          (or_cases (reaches_through d k b c) (reaches_through d k b k && reaches_through d k k c) q)
      by (inr same) =
          let P : ℕ → Type 0 = λ x. reaches_through d (suc k) a x ≡ true in
          let Q : ℕ → Type 0 = λ x. reaches_through d (suc k) x c ≡ true in
          by_own k a c (to_own k a (subst P same p)) (from_own k c (subst Q same q))

  pub reaching_composes : (k : ℕ) → Closed k
  reaching_composes zero = λ a b c lt. absurd (omega (arith, lt))
  reaching_composes (suc k) = one_more k (reaching_composes k)

  -- what calls nothing reaches nothing
  pub nothing_reached : (k f : ℕ) → ((y : ℕ) → d f y ≡ false) → (g : ℕ) → reaches_through d k f g ≡ false
  nothing_reached zero f none g = none g
  nothing_reached (suc k) f none g =
      ap (λ u. u || (reaches_through d k f k && reaches_through d k k g)) (nothing_reached k f none g) ∙ ap (λ u. u && reaches_through d k k g) (nothing_reached k f none k)
