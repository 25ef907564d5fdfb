-- The sides of forms in order, by their coefficients.
use Rattle.std.proofs.Common.{◌≡◌, ◌≢◌, ◌⊎◌, ℕ, ◌≤◌, ◌==◌, Bool, true, false, if◌then◌else◌, [], ◌∷◌, refl, sym, ◌∙◌, ap, subst, inl, inr, arith}
use Rattle.std.specs.Prelude.{ℤ, pos, neg_ℤ, ◌+ℤ◌, int_lt}
use Rattle.std.proofs.lemmas.Int.{ints}
use Rattle.linear_chains.specs.Links.{Form, IsAbove, IsOrdered, times_at, positive, negative, turned}
use Rattle.branch_links.specs.BranchLinks.{added, taken}

-- the coefficient of class d in a part of class c
abbrev pub here : ℕ → ℕ → ℤ → ℤ
here c d z = if c == d then z else pos 0

pub told : (a b : ℕ) → ((a ≡ b) × ((a == b) ≡ true)) ⊎ ((a ≢ b) × ((a == b) ≡ false))
told a b = go (a == b) refl
  where
    go : (t : Bool) → (a == b) ≡ t → ((a ≡ b) × ((a == b) ≡ true)) ⊎ ((a ≢ b) × ((a == b) ≡ false))
    go true e = inl (grind (arith, e), e)
    go false e = inr ((λ h. grind (arith, e, h)), e)

pub here_same : (c d : ℕ) (z : ℤ) → (c == d) ≡ true → here c d z ≡ z
here_same c d z e = ap (λ t. if t then z else pos 0) e

pub here_other : (c d : ℕ) (z : ℤ) → (c == d) ≡ false → here c d z ≡ pos 0
here_other c d z e = ap (λ t. if t then z else pos 0) e

two_zeros : (a b : ℤ) → a ≡ pos 0 → b ≡ pos 0 → a +ℤ b ≡ pos 0
two_zeros a b d e = omega (arith, ints)

zero_behind : (a b c : ℤ) → a ≡ c → b ≡ pos 0 → a +ℤ b ≡ c
zero_behind a b c d e = omega (arith, ints)

zero_before : (a b c : ℤ) → a ≡ pos 0 → b ≡ c → a +ℤ b ≡ c
zero_before a b c d e = omega (arith, ints)

pub above_more : (c d : ℕ) (f : Form) → c ≤ d → IsAbove d f → IsAbove c f
above_more c d [] l a = tt
above_more c d (p ∷ f) l a = omega (arith, a)

pub nothing_there : (f : Form) (c : ℕ) → IsOrdered f → IsAbove c f → times_at f c ≡ pos 0
nothing_there [] c o a = refl
nothing_there (p ∷ f) c o a = elim (told (p.0) c) [
  | inl e ↦ let s = e.0 in absurd (omega (arith, a, s))
  | inr e ↦ two_zeros (here (p.0) c (p.1)) (times_at f c) (here_other (p.0) c (p.1) e.1) (nothing_there f c (o.2) (above_more c (p.0) f (omega (arith, a)) (o.1)))
]

-- ---- a side: what some coefficients become, and no others

module _ (keep : ℤ → Bool) (turn : ℤ → ℤ) where
  abbrev side : Form → Form
  side [] = []
  side (p ∷ f) = if keep (p.1) then (p.0, turn (p.1)) ∷ side f else side f

  abbrev kept : ℤ → ℤ
  kept z = if keep z then turn z else pos 0

  module _ (none : kept (pos 0) ≡ pos 0) (some : (z : ℤ) → keep z ≡ true → z ≢ pos 0 → turn z ≢ pos 0) where
    side_above : (c : ℕ) (f : Form) → IsOrdered f → IsAbove c f → IsAbove c (side f)
    side_above c [] o a = tt
    side_above c (p ∷ f) o a = go (side_above c f (o.2) (above_more c (p.0) f (omega (arith, a)) (o.1))) (keep (p.1))
      where
        go : IsAbove c (side f) → (b : Bool) → IsAbove c (if b then (p.0, turn (p.1)) ∷ side f else side f)
        go rest true = a
        go rest false = rest

    side_ordered : (f : Form) → IsOrdered f → IsOrdered (side f)
    side_ordered [] o = tt
    side_ordered (p ∷ f) o = go (side_ordered f (o.2)) (keep (p.1)) refl
      where
        go : IsOrdered (side f) → (b : Bool) → keep (p.1) ≡ b → IsOrdered (if b then (p.0, turn (p.1)) ∷ side f else side f)
        go rest true e = (some (p.1) e (o.0), side_above (p.0) f (o.2) (o.1), rest)
        go rest false e = rest

    side_times : (f : Form) (c : ℕ) → IsOrdered f → times_at (side f) c ≡ kept (times_at f c)
    side_times [] c o = sym none
    side_times (p ∷ f) c o = elim (told (p.0) c) [
      | inl e ↦
          let z : times_at f c ≡ pos 0 = nothing_there f c (o.2) (let a = o.1 in subst_above (p.0) c f e.0 a) in
          let rest : times_at (side f) c ≡ pos 0 = side_times f c (o.2) ∙ ap kept z ∙ none in
          let whole : times_at (p ∷ f) c ≡ p.1 = zero_behind (here (p.0) c (p.1)) (times_at f c) (p.1) (here_same (p.0) c (p.1) e.1) z in
          go_same e.1 (keep (p.1)) refl rest ∙ ap kept (sym whole)
      | inr e ↦
          let whole : times_at (p ∷ f) c ≡ times_at f c = zero_before (here (p.0) c (p.1)) (times_at f c) (times_at f c) (here_other (p.0) c (p.1) e.1) refl in
          go_other e.1 (keep (p.1)) ∙ side_times f c (o.2) ∙ ap kept (sym whole)
    ]
      where
        subst_above : (c d : ℕ) (f : Form) → c ≡ d → IsAbove c f → IsAbove d f
        subst_above c d [] e a = tt
        subst_above c d (q ∷ f) e a = omega (arith, a, e)

        go_same : (p.0 == c) ≡ true → (b : Bool) → keep (p.1) ≡ b → times_at (side f) c ≡ pos 0 → times_at (if b then (p.0, turn (p.1)) ∷ side f else side f) c ≡ kept (p.1)
        go_same t true e rest = zero_behind (here (p.0) c (turn (p.1))) (times_at (side f) c) (turn (p.1)) (here_same (p.0) c (turn (p.1)) t) rest ∙ sym (ap (λ b. if b then turn (p.1) else pos 0) e)
        go_same t false e rest = rest ∙ sym (ap (λ b. if b then turn (p.1) else pos 0) e)

        go_other : (p.0 == c) ≡ false → (b : Bool) → times_at (if b then (p.0, turn (p.1)) ∷ side f else side f) c ≡ times_at (side f) c
        go_other t true = zero_before (here (p.0) c (turn (p.1))) (times_at (side f) c) (times_at (side f) c) (here_other (p.0) c (turn (p.1)) t) refl
        go_other t false = refl

-- ---- both sides of a link

positive_is : (f : Form) → positive f ≡ side (λ z. int_lt (pos 0) z) (λ z. z) f
positive_is [] = refl
positive_is (p ∷ f) = λ i. if int_lt (pos 0) (p.1) then p ∷ positive_is f i else positive_is f i

negative_is : (f : Form) → negative f ≡ side (λ z. int_lt z (pos 0)) neg_ℤ f
negative_is [] = refl
negative_is (p ∷ f) = λ i. if int_lt (p.1) (pos 0) then turned p ∷ negative_is f i else negative_is f i

neg_some : (z : ℤ) → z ≢ pos 0 → neg_ℤ z ≢ pos 0
neg_some z n e = n (twice z e)
  where
    twice : (z : ℤ) → neg_ℤ z ≡ pos 0 → z ≡ pos 0
    twice z e = omega (arith, ints)

pub positive_ordered : (f : Form) → IsOrdered f → IsOrdered (positive f)
positive_ordered f o = subst IsOrdered (sym (positive_is f)) (side_ordered (λ z. int_lt (pos 0) z) (λ z. z) refl (λ z e n. n) f o)

pub negative_ordered : (f : Form) → IsOrdered f → IsOrdered (negative f)
negative_ordered f o = subst IsOrdered (sym (negative_is f)) (side_ordered (λ z. int_lt z (pos 0)) neg_ℤ refl (λ z e n. neg_some z n) f o)

pub positive_times : (f : Form) (c : ℕ) → IsOrdered f → times_at (positive f) c ≡ added (times_at f c)
positive_times f c o = ap (λ g. times_at g c) (positive_is f) ∙ side_times (λ z. int_lt (pos 0) z) (λ z. z) refl (λ z e n. n) f c o

pub negative_times : (f : Form) (c : ℕ) → IsOrdered f → times_at (negative f) c ≡ taken (times_at f c)
negative_times f c o = ap (λ g. times_at g c) (negative_is f) ∙ side_times (λ z. int_lt z (pos 0)) neg_ℤ refl (λ z e n. neg_some z n) f c o
