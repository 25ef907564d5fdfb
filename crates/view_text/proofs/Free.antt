-- Texts without a newline, and gutters without a bar.
use Rattle.std.proofs.Common.{◌≡◌, ℕ, zero, suc, ◌-◌, ◌%◌, ◌/◌, ◌<◌, ◌≤◌, eqb, nat_lt, Bool, true, false, not, cond, ◌&&◌, ◌||◌, List, [], ◌∷◌, ◌++◌, length, replicate, refl, sym, ap, arith}
use Rattle.std.specs.List.{list_all}
use Rattle.std.specs.Fmt.{decimal, digits, digits_onto, digit_glyph}
use Rattle.std.proofs.lemmas.Bool.{false≢true}
use Rattle.std.proofs.lemmas.Nat.{mod_below}
use Rattle.std.proofs.lemmas.Bool.Decides.{nat_tests}
use Rattle.goal_words.proofs.Numerals.{both_true}
use Rattle.report_read.specs.Bytes.{stops, is_free_of}
use Rattle.view_text.specs.Text.{padded}
use Rattle.view_text.specs.Whole.{is_blank}

abbrev pub Free : List ℕ → Type 0
Free text = is_free_of 10 text ≡ true

pub both_free : (end : ℕ) (a b : List ℕ) → is_free_of end a ≡ true → is_free_of end b ≡ true → is_free_of end (a ++ b) ≡ true
both_free end [] b h k = k
both_free end (x ∷ a) b h k = let p = both_true (not (stops end x)) (is_free_of end a) h in let more = both_free end a b p.1 k in λ j. p.0 j && more j

pub front_free : (end : ℕ) (a b : List ℕ) → is_free_of end (a ++ b) ≡ true → is_free_of end a ≡ true
front_free end [] b h = refl
front_free end (x ∷ a) b h = let p = both_true (not (stops end x)) (is_free_of end (a ++ b)) h in let more = front_free end a b p.1 in λ j. p.0 j && more j

pub rest_free : (end : ℕ) (a b : List ℕ) → is_free_of end (a ++ b) ≡ true → is_free_of end b ≡ true
rest_free end [] b h = h
rest_free end (x ∷ a) b h = rest_free end a b (both_true (not (stops end x)) (is_free_of end (a ++ b)) h).1

-- what has neither a byte nor a newline has no newline
pub free_of_more : (end : ℕ) (text : List ℕ) → is_free_of end text ≡ true → Free text
free_of_more end [] h = refl
free_of_more end (x ∷ text) h =
    let p = both_true (not (stops end x)) (is_free_of end text) h in
    let more = free_of_more end text p.1 in
    let one : not (stops 10 x) ≡ true = by (eqb x end) (eqb x 10) p.0 in
    λ j. one j && more j
  where
    by : (t u : Bool) → not (t || u) ≡ true → not (u || u) ≡ true
    by t false h = refl
    by true true h = absurd (false≢true h)
    by false true h = absurd (false≢true h)

-- ---- digits

glyph_low : (n : ℕ) → 48 ≤ digit_glyph false (n % 10)
glyph_low n = let small : n % 10 < 10 = mod_below n 10 (omega arith) in let is : nat_lt (n % 10) 10 ≡ true = grind (arith, nat_tests) in rw is (omega arith)

glyph_high : (n : ℕ) → digit_glyph false (n % 10) ≤ 57
glyph_high n = let small : n % 10 < 10 = mod_below n 10 (omega arith) in let is : nat_lt (n % 10) 10 ≡ true = grind (arith, nat_tests) in rw is (omega (arith, small))

abbrev IsOfDigits : (ℕ → Bool) → Type 0
IsOfDigits q = (c : ℕ) → 48 ≤ c → c ≤ 57 → q c ≡ true

all_onto : (q : ℕ → Bool) → IsOfDigits q → (k n : ℕ) (acc : List ℕ) → list_all q acc ≡ true → list_all q (digits_onto k 10 false n acc) ≡ true
all_onto q is zero n acc h = h
all_onto q is (suc k) n acc h = by (eqb (n / 10) 0) (all_onto q is k (n / 10) (digit_glyph false (n % 10) ∷ acc) one)
  where
    one : list_all q (digit_glyph false (n % 10) ∷ acc) ≡ true
    one = let d = is (digit_glyph false (n % 10)) (glyph_low n) (glyph_high n) in λ j. d j && h j

    by : (t : Bool) → list_all q (digits_onto k 10 false (n / 10) (digit_glyph false (n % 10) ∷ acc)) ≡ true
        → list_all q (cond t (digit_glyph false (n % 10) ∷ acc) (digits_onto k 10 false (n / 10) (digit_glyph false (n % 10) ∷ acc))) ≡ true
    by true more = one
    by false more = more

all_digits : (q : ℕ → Bool) → IsOfDigits q → (n : ℕ) → list_all q (decimal n) ≡ true
unfolding digits
all_digits q is n = all_onto q is 64 n [] refl

no_newline : IsOfDigits (λ c. not (stops 10 c))
no_newline c low high = let other : eqb c 10 ≡ false = grind (arith, nat_tests) in rw other refl

no_bar : IsOfDigits (λ c. not (stops 124 c))
no_bar c low high = let line : eqb c 10 ≡ false = grind (arith, nat_tests) in let bar : eqb c 124 ≡ false = grind (arith, nat_tests) in rw (bar, line) refl

pub free_decimal : (n : ℕ) → Free (decimal n)
free_decimal n = all_digits (λ c. not (stops 10 c)) no_newline n

-- ---- a number behind spaces

free_spaces : (end n : ℕ) → not (stops end 32) ≡ true → is_free_of end (replicate n 32) ≡ true
free_spaces end zero h = refl
free_spaces end (suc n) h = let more = free_spaces end n h in λ j. h j && more j

pub free_padded : (width n : ℕ) → Free (padded width n)
unfolding padded
free_padded width n = both_free 10 (replicate (width - length (decimal n)) 32) (decimal n) (free_spaces 10 (width - length (decimal n)) refl) (free_decimal n)

pub barless_padded : (width n : ℕ) → is_free_of 124 (padded width n) ≡ true
unfolding padded
barless_padded width n =
    both_free 124 (replicate (width - length (decimal n)) 32) (decimal n) (free_spaces 124 (width - length (decimal n)) refl) (all_digits (λ c. not (stops 124 c)) no_bar n)

no_space : (n : ℕ) → eqb (digit_glyph false (n % 10)) 32 ≡ false
no_space n = let low = glyph_low n in grind (arith, nat_tests, low)

some_onto : (k n : ℕ) (acc : List ℕ) → is_blank acc ≡ false → is_blank (digits_onto k 10 false n acc) ≡ false
some_onto zero n acc h = h
some_onto (suc k) n acc h = by (eqb (n / 10) 0) (some_onto k (n / 10) (digit_glyph false (n % 10) ∷ acc) one)
  where
    one : is_blank (digit_glyph false (n % 10) ∷ acc) ≡ false
    one = ap (λ t. t && is_blank acc) (no_space n)

    by : (t : Bool) → is_blank (digits_onto k 10 false (n / 10) (digit_glyph false (n % 10) ∷ acc)) ≡ false
        → is_blank (cond t (digit_glyph false (n % 10) ∷ acc) (digits_onto k 10 false (n / 10) (digit_glyph false (n % 10) ∷ acc))) ≡ false
    by true more = one
    by false more = more

some_first : (k n : ℕ) → is_blank (digits_onto (suc k) 10 false n []) ≡ false
some_first k n = by (eqb (n / 10) 0) (some_onto k (n / 10) (digit_glyph false (n % 10) ∷ []) one)
  where
    one : is_blank (digit_glyph false (n % 10) ∷ []) ≡ false
    one = ap (λ t. t && true) (no_space n)

    by : (t : Bool) → is_blank (digits_onto k 10 false (n / 10) (digit_glyph false (n % 10) ∷ [])) ≡ false
        → is_blank (cond t (digit_glyph false (n % 10) ∷ []) (digits_onto k 10 false (n / 10) (digit_glyph false (n % 10) ∷ []))) ≡ false
    by true more = one
    by false more = more

not_blank : (a b : List ℕ) → is_blank b ≡ false → is_blank (a ++ b) ≡ false
not_blank [] b h = h
not_blank (x ∷ a) b h = by (eqb x 32) (not_blank a b h)
  where
    by : (t : Bool) → is_blank (a ++ b) ≡ false → (t && is_blank (a ++ b)) ≡ false
    by true more = more
    by false more = refl

blank_front : (a b : List ℕ) → is_blank a ≡ false → is_blank (a ++ b) ≡ false
blank_front [] b h = absurd (false≢true (sym h))
blank_front (x ∷ a) b h = by (eqb x 32) h (blank_front a b)
  where
    by : (t : Bool) → (t && is_blank a) ≡ false → (is_blank a ≡ false → is_blank (a ++ b) ≡ false) → (t && is_blank (a ++ b)) ≡ false
    by true h more = more h
    by false h more = refl

pub number_shows : (width n : ℕ) → is_blank (padded width n ++ 32 ∷ []) ≡ false
unfolding padded digits
number_shows width n =
    blank_front (replicate (width - length (decimal n)) 32 ++ decimal n) (32 ∷ []) (not_blank (replicate (width - length (decimal n)) 32) (decimal n) (some_first 63 n))
