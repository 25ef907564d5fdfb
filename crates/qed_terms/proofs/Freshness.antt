-- Fresh names are new, and differ where base or number does.
use Rattle.std.proofs.Common.{◌≡◌, ◌⊎◌, ℕ, ◌+◌, true, false, List, [], ◌∷◌, ◌++◌, drop, map, refl, sym, ap, ◌∙◌, inl, inr, ⊎_elim, arith}
use Rattle.std.specs.Prelude.{◌==◌, if◌then◌else◌, get_or}
use Rattle.std.proofs.lemmas.Bool.Decides.{nat_tests}
use Rattle.std.specs.Int.Digits.{digits_of, AllBelowBase}
use Rattle.std.proofs.lemmas.Int.Digits.{all_below_base_digits_of, same_from_digits_of}
use Rattle.qed_terms.specs.Names.{before_colon}
use Rattle.qed_terms.specs.Fresh.{from_colon, numeral, fresh_name, Lacks, FreshNamesDiffer, FreshNamesAreNew}

head_same : {a b : ℕ} {xs ys : List ℕ} → a ∷ xs ≡ b ∷ ys → a ≡ b
head_same e = ap (λ l. get_or l 0 0) e

tail_same : {a b : ℕ} {xs ys : List ℕ} → a ∷ xs ≡ b ∷ ys → xs ≡ ys
tail_same e = ap (λ l. drop 1 l) e

-- ---- split at the first `#`

lacks_front : (c : ℕ) (bytes : List ℕ) → Lacks c bytes → Lacks c (before_colon bytes)
lacks_front c [] h = tt
lacks_front c (b ∷ bytes) h = elim (b == 58) as (λ t. Lacks c (if t then [] else b ∷ before_colon bytes)) [ true ↦ tt | false ↦ (h.0, lacks_front c bytes h.1) ]

split_same : (c : ℕ) (xs us ys vs : List ℕ) → Lacks c xs → Lacks c us → xs ++ c ∷ ys ≡ us ++ c ∷ vs → (xs ≡ us) × (ys ≡ vs)
split_same c [] [] ys vs h k e = (refl, tail_same e)
split_same c [] (u ∷ us) ys vs h k e = absurd (k.0 (sym (head_same e)))
split_same c (x ∷ xs) [] ys vs h k e = absurd (h.0 (head_same e))
split_same c (x ∷ xs) (u ∷ us) ys vs h k e =
    let rest = split_same c xs us ys vs h.1 k.1 (tail_same e) in
    let first = head_same e in
    ((λ i. first i ∷ rest.0 i), rest.1)

-- ---- split behind the digits

abbrev Ends : List ℕ → Type 0
Ends r = (r ≡ []) ⊎ ((t : List ℕ) × (r ≡ 58 ∷ t))

ends_colon : (b : ℕ) → (b == 58) ≡ true → b ≡ 58
ends_colon b e = grind (arith, nat_tests)

from_colon_ends : (bytes : List ℕ) → Ends (from_colon bytes)
from_colon_ends [] = inl refl
from_colon_ends (b ∷ bytes) =
    elim (b == 58) as (λ t. (b == 58) ≡ t → Ends (if t then b ∷ bytes else from_colon bytes)) [
      | true ↦ (λ e. inr (bytes, ap (λ c. c ∷ bytes) (ends_colon b e)))
      | false ↦ (λ e. from_colon_ends bytes)
    ]
    refl

no_end : (x : ℕ) (xs r : List ℕ) → Ends r → (x ≡ 58 → ⊥) → r ≡ x ∷ xs → ⊥
no_end x xs r ends not_colon e = ⊎_elim
    (λ none. let k : [] ≡ x ∷ xs = sym none ∙ e in cc)
    (λ some. not_colon (sym (head_same (sym some.1 ∙ e))))
    ends

digits_apart : (ds es r s : List ℕ) → Lacks 58 ds → Lacks 58 es → Ends r → Ends s → ds ++ r ≡ es ++ s → (ds ≡ es) × (r ≡ s)
digits_apart [] [] r s h k p q e = (refl, e)
digits_apart [] (x ∷ es) r s h k p q e = absurd (no_end x (es ++ s) r p k.0 e)
digits_apart (d ∷ ds) [] r s h k p q e = absurd (no_end d (ds ++ r) s q h.0 (sym e))
digits_apart (d ∷ ds) (x ∷ es) r s h k p q e =
    let rest = digits_apart ds es r s h.1 k.1 p q (tail_same e) in
    let first = head_same e in
    ((λ i. first i ∷ rest.0 i), rest.1)

digits_lack : (ds : List ℕ) → AllBelowBase 10 ds → Lacks 58 (map (λ d. 48 + d) ds)
digits_lack [] h = tt
digits_lack (d ∷ ds) h = ((λ e. omega (arith, h.0, e)), digits_lack ds h.1)

glyphs_same : (ds es : List ℕ) → map (λ d. 48 + d) ds ≡ map (λ d. 48 + d) es → ds ≡ es
glyphs_same [] [] e = refl
glyphs_same [] (x ∷ es) e = cc
glyphs_same (d ∷ ds) [] e = cc
glyphs_same (d ∷ ds) (x ∷ es) e =
    let first : d ≡ x = omega (arith, head_same e) in
    let rest = glyphs_same ds es (tail_same e) in
    λ i. first i ∷ rest i

-- ---- the laws

colon_parts : (bytes : List ℕ) → bytes ≡ before_colon bytes ++ from_colon bytes
colon_parts [] = refl
colon_parts (b ∷ bytes) =
    elim (b == 58) as (λ t. b ∷ bytes ≡ (if t then [] else b ∷ before_colon bytes) ++ (if t then b ∷ bytes else from_colon bytes)) [
      | true ↦ refl
      | false ↦ ap (λ l. b ∷ l) (colon_parts bytes)
    ]

pub fresh_names_differ : FreshNamesDiffer
unfolding fresh_name
fresh_names_differ a b m n h k e =
    let cut = split_same 35 (before_colon a) (before_colon b) (numeral m ++ from_colon a) (numeral n ++ from_colon b) (lacks_front 35 a h) (lacks_front 35 b k) e in
    let parts = digits_apart (numeral m) (numeral n) (from_colon a) (from_colon b)
    (digits_lack (digits_of 10 m) (all_below_base_digits_of 10 m (omega arith)))
    (digits_lack (digits_of 10 n) (all_below_base_digits_of 10 n (omega arith)))
    (from_colon_ends a) (from_colon_ends b) cut.1 in (
      colon_parts a ∙ (λ i. cut.0 i ++ parts.1 i) ∙ sym (colon_parts b),
      same_from_digits_of 10 m n (omega arith) (glyphs_same (digits_of 10 m) (digits_of 10 n) parts.0),
    )

has_the_byte : (c : ℕ) (xs ys : List ℕ) → Lacks c (xs ++ c ∷ ys) → ⊥
has_the_byte c [] ys h = h.0 refl
has_the_byte c (x ∷ xs) ys h = has_the_byte c xs ys h.1

pub fresh_names_are_new : FreshNamesAreNew
unfolding fresh_name
fresh_names_are_new base n h = has_the_byte 35 (before_colon base) (numeral n ++ from_colon base) h
