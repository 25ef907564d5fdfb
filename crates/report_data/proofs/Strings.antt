-- Strings and numbers of JSON: what is written is read.
use Rattle.std.proofs.Common.{◌≡◌, ℕ, ◌+◌, ◌/◌, ◌%◌, ◌<◌, ◌≤◌, eqb, nat_lt, nat_le, Bool, true, false, cond, ◌||◌, ◌&&◌, List, [], ◌∷◌, ◌++◌, length, map, Option, Some, None, refl, ap, ◌∙◌, arith, append_assoc}
use Rattle.std.specs.List.{list_all}
use Rattle.std.specs.Fmt.{decimal}
use Rattle.std.specs.Str.Parse.{AllDigits, IsNumeral}
use Rattle.std.proofs.lemmas.Bool.Decides.{nat_tests}
use Rattle.std.proofs.lemmas.Str.Parse.{digit_from_value}
use Rattle.goal_words.specs.Bytes.{expect, with_rest}
use Rattle.goal_words.specs.Numbers.{count}
use Rattle.goal_words.proofs.Numerals.{count_text, below_32, numeral}
use Rattle.report_read.specs.Bytes.{joined, all_of}
use Rattle.report_read.specs.Report.{is_number}
use Rattle.report_read.proofs.Many.{all_read, bytes_read}
use Rattle.report_data.specs.Json.{hex_digit, is_shown, code_of, escaped, string, hex_value, char_at, ended, string_at, digit_at, number_at, is_byte, are_bytes}

-- ---- digits of base 16

zero_read : hex_value 48 ≡ Some 0
unfolding hex_value
zero_read = refl

hex_read : (n : ℕ) → n < 16 → hex_value (hex_digit n) ≡ Some n
unfolding hex_value hex_digit
hex_read n l = by (nat_lt n 10) refl
  where
    by : (t : Bool) → nat_lt n 10 ≡ t → hex_value (cond t (48 + n) (87 + n)) ≡ Some n
    by true e =
        let small : n < 10 = grind (arith, nat_tests) in
        let low : nat_le 48 (48 + n) ≡ true = grind (arith, nat_tests) in
        let high : nat_le (48 + n) 57 ≡ true = grind (arith, nat_tests) in
        rw (low, high) (ap Some (omega arith))
    by false e =
        let large : 10 ≤ n = grind (arith, nat_tests) in
        let above : nat_le (87 + n) 57 ≡ false = grind (arith, nat_tests) in
        let digit : nat_le 48 (87 + n) ≡ true = grind (arith, nat_tests) in
        let low : nat_le 97 (87 + n) ≡ true = grind (arith, nat_tests) in
        let high : nat_le (87 + n) 102 ≡ true = grind (arith, nat_tests) in
        rw (digit, above, low, high) (ap Some (omega arith))

-- ---- characters

char_read : (b : ℕ) (rest : List ℕ) → is_byte b ≡ true → char_at (escaped b ++ rest) ≡ Some (b, rest)
unfolding char_at escaped
char_read b rest h = by (eqb b 34) (eqb b 92) (is_shown b) refl refl refl
  where
    by : (x y z : Bool) → eqb b 34 ≡ x → eqb b 92 ≡ y → is_shown b ≡ z → char_at (cond (x || y) (92 ∷ b ∷ []) (cond z (b ∷ []) (code_of b)) ++ rest) ≡ Some (b, rest)
    by true y z e f g = rw e
    by false true z e f g = rw (e, f)
    by false false true e f g = rw (e, f)
    by false false false e f g =
        let small : b < 256 = grind (arith, nat_tests) in
        let found : ℕ → Option (ℕ × List ℕ) = λ n. Some (n, rest) in
        let first : hex_value (hex_digit (b / 16)) ≡ Some (b / 16) = hex_read (b / 16) (omega arith) in
        let second : hex_value (hex_digit (b % 16)) ≡ Some (b % 16) = hex_read (b % 16) (omega arith) in
        rw (zero_read, zero_read, first, second) (ap found (omega arith))

some_escaped : (b : ℕ) → 0 < length (escaped b)
unfolding escaped
some_escaped b = by (eqb b 34) (eqb b 92) (is_shown b)
  where
    by : (x y z : Bool) → 0 < length (cond (x || y) (92 ∷ b ∷ []) (cond z (b ∷ []) (code_of b)))
    by true y z = omega arith
    by false true z = omega arith
    by false false true = omega arith
    by false false false = omega arith

chars_read : (s rest : List ℕ) → are_bytes s ≡ true → all_of char_at (joined (map escaped s) ++ 34 ∷ rest) ≡ (s, 34 ∷ rest)
unfolding char_at
chars_read s rest h = all_read char_at escaped is_byte (λ _. Unit {0}) (λ b r i f. char_read b r i) (λ b r. tt) some_escaped s (34 ∷ rest) h tt refl

pub string_read : (s rest : List ℕ) → are_bytes s ≡ true → string_at (string s ++ rest) ≡ Some (s, rest)
unfolding string_at
string_read s rest h =
    let end : List ℕ × List ℕ → Option (List ℕ × List ℕ) = λ p. ended p.0 (expect 34 p.1) in
    ap (λ bytes. end (all_of char_at bytes)) (append_assoc (joined (map escaped s)) (34 ∷ []) rest) ∙ ap end (chars_read s rest h)

-- ---- numbers

abbrev is_digit : ℕ → Bool
is_digit b = nat_le 48 b && nat_le b 57

digit_read : (b : ℕ) (rest : List ℕ) → is_digit b ≡ true → digit_at (b ∷ rest) ≡ Some (b, rest)
digit_read b rest h = rw h

are_digits : (ds : List ℕ) → AllDigits 10 ds → list_all is_digit ds ≡ true
are_digits [] h = refl
are_digits (b ∷ ds) h =
    let r = digit_from_value b h.0 in
    let low : nat_le 48 b ≡ true = grind (arith, nat_tests) in
    let high : nat_le b 57 ≡ true = grind (arith, nat_tests) in
    rw (low, high) (are_digits ds h.1)

pub number_read : (n : ℕ) (rest : List ℕ) → is_number n ≡ true → digit_at rest ≡ None → number_at (decimal n ++ rest) ≡ Some (n, rest)
unfolding number_at
number_read n rest h none =
    let small = below_32 n h in
    let end : List ℕ × List ℕ → Option (ℕ × List ℕ) = λ p. with_rest p.1 (count p.0) in
    ap end (bytes_read digit_at is_digit digit_read (decimal n) rest (are_digits (decimal n) (numeral n (omega arith)).0.1) none)
    ∙ ap (with_rest rest) (count_text n h)

-- a number begins with no quotation mark
pub no_string : (n : ℕ) (rest : List ℕ) → is_number n ≡ true → string_at (decimal n ++ rest) ≡ None
unfolding string_at
no_string n rest h = let small = below_32 n h in by (decimal n) (numeral n (omega arith)).0
  where
    by : (ds : List ℕ) → IsNumeral 10 ds → string_at (ds ++ rest) ≡ None
    by [] k = absurd (omega (arith, k.0))
    by (d ∷ ds) k =
        let r = digit_from_value d k.1.0 in
        let other : eqb d 34 ≡ false = grind (arith, nat_tests) in
        rw other
