-- Names of binders differ, and are no names without a `!`.
use Rattle.std.proofs.Common.{◌≡◌, ◌⊎◌, ℕ, zero, suc, ◌+◌, ◌<◌, ◌≤◌, Bool, true, false, cond, List, [], ◌∷◌, ◌++◌, drop, map, refl, sym, ap, inl, inr, ⊎_elim}
use Rattle.std.proofs.Common.{arith}
use Rattle.std.specs.Prelude.{get_or, if◌then◌else◌, nat_lt, ◌-◌}
use Rattle.std.specs.Str.{bytes_eq}
use Rattle.std.proofs.lemmas.Bool.{cases_Bool}
use Rattle.std.proofs.lemmas.Slice.Eq.{bytes_eq-Decides}
use Rattle.std.specs.Int.Digits.{digits_of}
use Rattle.std.proofs.lemmas.Int.Digits.{same_from_digits_of}
use Rattle.qed_terms.specs.Fresh.{Lacks, numeral}
use Rattle.acsl_encode.specs.Binders.{Spelled, spelled_at, bound_before, numbered, mark, AllLack, BindersDiffer}

head_same : {a b : ℕ} {xs ys : List ℕ} → a ∷ xs ≡ b ∷ ys → a ≡ b
head_same e = ap (λ l. get_or l 0 0) e

tail_same : {a b : ℕ} {xs ys : List ℕ} → a ∷ xs ≡ b ∷ ys → xs ≡ ys
tail_same e = ap (λ l. drop 1 l) e

-- split at the first mark
split_same : (c : ℕ) (xs us ys vs : List ℕ) → Lacks c xs → Lacks c us → xs ++ c ∷ ys ≡ us ++ c ∷ vs → (xs ≡ us) × (ys ≡ vs)
split_same c [] [] ys vs h k e = (refl, tail_same e)
split_same c [] (u ∷ us) ys vs h k e = absurd (k.0 (sym (head_same e)))
split_same c (x ∷ xs) [] ys vs h k e = absurd (h.0 (head_same e))
split_same c (x ∷ xs) (u ∷ us) ys vs h k e =
    let rest = split_same c xs us ys vs h.1 k.1 (tail_same e) in
    let first = head_same e in
    ((λ i. first i ∷ rest.0 i), rest.1)

glyphs_same : (ds es : List ℕ) → map (λ d. 48 + d) ds ≡ map (λ d. 48 + d) es → ds ≡ es
glyphs_same [] [] e = refl
glyphs_same [] (x ∷ es) e = cc
glyphs_same (d ∷ ds) [] e = cc
glyphs_same (d ∷ ds) (x ∷ es) e =
    let first : d ≡ x = omega (arith, head_same e) in
    let rest = glyphs_same ds es (tail_same e) in
    λ i. first i ∷ rest i

numerals_same : (m n : ℕ) → numeral m ≡ numeral n → m ≡ n
numerals_same m n e = same_from_digits_of 10 m n (omega arith) (glyphs_same (digits_of 10 m) (digits_of 10 n) e)

has_the_byte : (c : ℕ) (xs ys : List ℕ) → Lacks c (xs ++ c ∷ ys) → ⊥
has_the_byte c [] ys h = h.0 refl
has_the_byte c (x ∷ xs) ys h = has_the_byte c xs ys h.1

-- ---- counts

counted : (names : Spelled) (n : ℕ) → bound_before names (spelled_at names n) (suc n) ≡ suc (bound_before names (spelled_at names n) n)
counted names n =
    ap (λ b. cond b (suc (bound_before names (spelled_at names n) n)) (bound_before names (spelled_at names n) n))
    ((bytes_eq-Decides (spelled_at names n) (spelled_at names n)).1 refl)

one_grows : (names : Spelled) (x : List ℕ) (n : ℕ) → bound_before names x n ≤ bound_before names x (suc n)
one_grows names x n = by (bytes_eq (spelled_at names n) x)
  where
    by : (b : Bool) → bound_before names x n ≤ (if b then suc (bound_before names x n) else bound_before names x n)
    by true = omega arith
    by false = omega arith

count_grows : (names : Spelled) (x : List ℕ) (i n : ℕ) → bound_before names x i ≤ bound_before names x (n + i)
count_grows names x i zero = let e : 0 + i ≡ i = omega arith in let same = ap (bound_before names x) e in omega (arith, same)
count_grows names x i (suc n) = let a = count_grows names x i n in let b = one_grows names x (n + i) in let e : suc n + i ≡ suc
    (n + i) = omega arith in let same = ap (bound_before names x) e in omega (arith, a, b, same)

-- a binder that stands before another one of its name has a smaller number
comes_before : (names : Spelled) (i j : ℕ) → spelled_at names i ≡ spelled_at names j → i < j
    → bound_before names (spelled_at names i) i < bound_before names (spelled_at names j) j
comes_before names i j same less =
    let far : (n : ℕ) × (j ≡ n + suc i) = (j - suc i, omega (arith, less)) in
    let more = count_grows names (spelled_at names i) (suc i) far.0 in
    let at_j : bound_before names (spelled_at names i) (far.0 + suc i) ≡ bound_before names (spelled_at names j) j =
    (λ k. bound_before names (same k) (sym far.1 k)) in
    let here = counted names i in omega (arith, more, at_j, here)

spelled_lacks : (names : Spelled) (n : ℕ) → AllLack names → Lacks mark (spelled_at names n)
spelled_lacks [] n h = tt
spelled_lacks (x ∷ xs) zero h = h.0
spelled_lacks (x ∷ xs) (suc n) h = spelled_lacks xs n h.1

pub binders_differ : BindersDiffer
unfolding numbered
binders_differ names lack i j e =
    let parts = split_same mark (spelled_at names i) (spelled_at names j) _ _ (spelled_lacks names i lack) (spelled_lacks names j lack) e in
    let counts = numerals_same (suc (bound_before names (spelled_at names i) i)) (suc (bound_before names (spelled_at names j) j)) parts.1 in
    ⊎_elim
    (λ less. absurd (let before = comes_before names i j parts.0 less in omega (arith, before, counts)))
    (λ not_less. ⊎_elim
    (λ less. absurd (let before = comes_before names j i (sym parts.0) less in omega (arith, before, counts)))
    (λ neither. omega (arith, not_less, neither))
    (either_way j i))
    (either_way i j)
  where
    either_way : (i j : ℕ) → (i < j) ⊎ (j ≤ i)
    either_way i j = ⊎_elim (λ yes. inl (grind (arith, yes))) (λ no. inr (grind (arith, no))) (cases_Bool (nat_lt i j))

pub has_mark : (names : Spelled) (n : ℕ) → Lacks mark (numbered names n) → ⊥
unfolding numbered
has_mark names n h = has_the_byte mark (spelled_at names n) (numeral (suc (bound_before names (spelled_at names n) n))) h
