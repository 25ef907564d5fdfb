-- Numbers as words.
use Rattle.std.proofs.Common.{◌≡◌, ℕ, suc, ◌<◌, ◌≤◌, ◌^◌, Bool, true, false, ◌&&◌, eqb, List, [], ◌∷◌, Option, Some, None, ℤ, pos, negsuc, neg_ℤ, FitsSigned, refl, sym, ap, ◌∙◌, subst, arith, nat_lt}
use Rattle.std.specs.Int.{w128}
use Rattle.std.specs.Str.{bytes_eq, IsUtf8}
use Rattle.std.specs.Str.Parse.{IsNumeral, digits_value, signed_digits_value, without_leading_plus, without_leading_sign}
use Rattle.std.specs.Fmt.{decimal, signed_decimal}
use Rattle.std.proofs.lemmas.Bool.{false≢true}
use Rattle.std.proofs.lemmas.Bool.Decides.{nat_tests}
use Rattle.std.proofs.lemmas.Fmt.{decimal_is_IsNumeral_wide, IsAscii-decimal_wide}
use Rattle.std.proofs.lemmas.Slice.Eq.{bytes_eq-Decides}
use Rattle.std.proofs.lemmas.Str.{IsUtf8-from_ascii}
use Rattle.std.proofs.lemmas.Str.Parse.{digit_from_value}
use Rattle.itoa.proofs.Decimal.{signed_wide}
use Rattle.goal_words.specs.Bytes.{only_if}
use Rattle.goal_words.specs.Numbers.{fits_128, number, count}

pub only_if_is : {X : Type 0} (test : Bool) (x y : X) → only_if test x ≡ Some y → (test ≡ true) × (x ≡ y)
only_if_is true x y h = (refl, cc)
only_if_is false x y h = absurd cc

pub both_true : (a b : Bool) → (a && b) ≡ true → (a ≡ true) × (b ≡ true)
both_true true b h = (refl, h)
both_true false b h = absurd (false≢true h)

-- ---- 128 bits

pub fits_from : (z : ℤ) → FitsSigned w128 z → fits_128 z ≡ true
fits_from (pos n) h = let small = h.sfits in grind (arith, nat_tests)
fits_from (negsuc n) h = let small = h.sfits in grind (arith, nat_tests)

pub fits_to : (z : ℤ) → fits_128 z ≡ true → FitsSigned w128 z
fits_to (pos n) h = record { sfits = grind (arith, nat_tests) }
fits_to (negsuc n) h = record { sfits = grind (arith, nat_tests) }

-- ---- what digits write

not_minus : (c : ℕ) → 48 ≤ c → eqb c 45 ≡ false
not_minus c h = grind (arith, nat_tests)

not_plus : (c : ℕ) → 48 ≤ c → eqb c 43 ≡ false
not_plus c h = grind (arith, nat_tests)

digits_without_plus : (ds : List ℕ) → IsNumeral 10 ds → without_leading_plus ds ≡ ds
digits_without_plus [] h = refl
digits_without_plus (c ∷ cs) h = rw (not_plus c (omega (arith, digit_from_value c h.1.0)))

digits_without_sign : (ds : List ℕ) → IsNumeral 10 ds → without_leading_sign ds ≡ ds
digits_without_sign [] h = refl
digits_without_sign (c ∷ cs) h = rw (not_minus c (omega (arith, digit_from_value c h.1.0)), not_plus c (omega (arith, digit_from_value c h.1.0)))

digits_signed : (ds : List ℕ) → IsNumeral 10 ds → signed_digits_value 10 ds ≡ pos (digits_value 10 ds)
digits_signed [] h = refl
digits_signed (c ∷ cs) h = rw (not_minus c (omega (arith, digit_from_value c h.1.0)), not_plus c (omega (arith, digit_from_value c h.1.0)))

pub numeral : (n : ℕ) → n < 2 ^ 128 → IsNumeral 10 (decimal n) × (digits_value 10 (decimal n) ≡ n)
numeral n h = decimal_is_IsNumeral_wide n (omega arith)

signed_numeral : (z : ℤ) → FitsSigned w128 z → IsNumeral 10 (without_leading_sign (signed_decimal z))
signed_numeral (pos n) h =
    let small = h.sfits in
    let k = numeral n (omega arith) in
    subst (IsNumeral 10) (sym (digits_without_sign (decimal n) k.0)) k.0
signed_numeral (negsuc n) h = let small = h.sfits in (numeral (suc n) (omega arith)).0

signed_value : (z : ℤ) → FitsSigned w128 z → signed_digits_value 10 (signed_decimal z) ≡ z
signed_value (pos n) h =
    let small = h.sfits in
    let k = numeral n (omega arith) in
    digits_signed (decimal n) k.0 ∙ ap pos k.1
signed_value (negsuc n) h = let small = h.sfits in ap (λ m. neg_ℤ (pos m)) (numeral (suc n) (omega arith)).1

-- ---- the number that a word is

pub number_is : (word : List ℕ) (z : ℤ) → number word ≡ Some z → (signed_decimal z ≡ word) × (fits_128 z ≡ true)
unfolding number
number_is word z h =
    let v = signed_digits_value 10 word in
    let x = only_if_is (fits_128 v && bytes_eq (signed_decimal v) word) v z h in
    let y = both_true (fits_128 v) (bytes_eq (signed_decimal v) word) x.0 in
    (ap signed_decimal (sym x.1) ∙ (bytes_eq-Decides (signed_decimal v) word).0 y.1, ap fits_128 (sym x.1) ∙ y.0)

pub number_text : (z : ℤ) → fits_128 z ≡ true → number (signed_decimal z) ≡ Some z
unfolding number
number_text z h = rw (signed_value z (fits_to z h), h, (bytes_eq-Decides (signed_decimal z) (signed_decimal z)).1 refl)

number_none : (word : List ℕ) → ((z : ℤ) → FitsSigned w128 z → signed_decimal z ≡ word → ⊥) → number word ≡ None
number_none word none = by (number word) refl
  where
    by : (o : Option ℤ) → number word ≡ o → o ≡ None
    by None e = refl
    by (Some z) e = let x = number_is word z e in absurd (none z (fits_to z x.1) x.0)

pub no_number_in_bytes : (word : List ℕ) → (IsUtf8 word → ⊥) → number word ≡ None
no_number_in_bytes word other = number_none word (λ z fits e. other (subst IsUtf8 e (IsUtf8-from_ascii (signed_decimal z) (signed_wide z fits).0)))

pub no_number_read : (word : List ℕ) → (IsNumeral 10 (without_leading_sign word) × FitsSigned w128 (signed_digits_value 10 word) → ⊥) → number word ≡ None
no_number_read word other =
    number_none word (λ z fits e. other (
      subst (λ w. IsNumeral 10 (without_leading_sign w)) e (signed_numeral z fits),
      subst (λ w. FitsSigned w128 (signed_digits_value 10 w)) e (subst (FitsSigned w128) (sym (signed_value z fits)) fits),
    ))

pub number_read : (word shown : List ℕ) (z : ℤ) (same : Bool) → FitsSigned w128 (signed_digits_value 10 word) → z ≡ signed_digits_value 10 word → shown ≡ signed_decimal z → same ≡ bytes_eq shown word → only_if same z ≡ number word
unfolding number
number_read word shown z same fits e shows test = rw (test, shows, ← e, fits_from z (subst (FitsSigned w128) (sym e) fits))

-- ---- the same of 32 bits

pub count_is : (word : List ℕ) (n : ℕ) → count word ≡ Some n → (decimal n ≡ word) × (nat_lt n (2 ^ 32) ≡ true)
unfolding count
count_is word n h =
    let v = digits_value 10 (without_leading_plus word) in
    let x = only_if_is (nat_lt v (2 ^ 32) && bytes_eq (decimal v) word) v n h in
    let y = both_true (nat_lt v (2 ^ 32)) (bytes_eq (decimal v) word) x.0 in
    (ap decimal (sym x.1) ∙ (bytes_eq-Decides (decimal v) word).0 y.1, ap (λ n. nat_lt n (2 ^ 32)) (sym x.1) ∙ y.0)

pub below_32 : (n : ℕ) → nat_lt n (2 ^ 32) ≡ true → n < 2 ^ 32
below_32 n h = grind (arith, nat_tests)

count_value : (n : ℕ) → n < 2 ^ 32 → digits_value 10 (without_leading_plus (decimal n)) ≡ n
count_value n h = let k = numeral n (omega arith) in ap (digits_value 10) (digits_without_plus (decimal n) k.0) ∙ k.1

pub count_text : (n : ℕ) → nat_lt n (2 ^ 32) ≡ true → count (decimal n) ≡ Some n
unfolding count
count_text n h = rw (count_value n (below_32 n h), h, (bytes_eq-Decides (decimal n) (decimal n)).1 refl)

count_none : (word : List ℕ) → ((n : ℕ) → n < 2 ^ 32 → decimal n ≡ word → ⊥) → count word ≡ None
count_none word none = by (count word) refl
  where
    by : (o : Option ℕ) → count word ≡ o → o ≡ None
    by None e = refl
    by (Some n) e = let x = count_is word n e in absurd (none n (below_32 n x.1) x.0)

pub no_count_in_bytes : (word : List ℕ) → (IsUtf8 word → ⊥) → count word ≡ None
no_count_in_bytes word other = count_none word (λ n fits e. other (subst IsUtf8 e (IsUtf8-from_ascii (decimal n) (IsAscii-decimal_wide n (omega arith)))))

pub no_count_read : (word : List ℕ) → (IsNumeral 10 (without_leading_plus word) × (digits_value 10 (without_leading_plus word) < 2 ^ 32) → ⊥) → count word ≡ None
no_count_read word other =
    count_none word (λ n fits e.
    let k = numeral n (omega arith) in
    other (
      subst (λ w. IsNumeral 10 (without_leading_plus w)) e (subst (IsNumeral 10) (sym (digits_without_plus (decimal n) k.0)) k.0),
      subst (λ w. digits_value 10 (without_leading_plus w) < 2 ^ 32) e (subst (λ m. m < 2 ^ 32) (sym (count_value n fits)) fits),
    ))

pub count_read : (word shown : List ℕ) (n : ℕ) (same : Bool) → digits_value 10 (without_leading_plus word) < 2 ^ 32 → n ≡ digits_value 10 (without_leading_plus word) → shown ≡ decimal n → same ≡ bytes_eq shown word → only_if same n ≡ count word
unfolding count
count_read word shown n same fits e shows test =
    let small : nat_lt n (2 ^ 32) ≡ true = grind (arith, nat_tests) in
    rw (test, shows, ← e, small)
