-- The number at the front of a text: its constant, its suffix, and that nothing longer is a number.
use Rattle.std.proofs.Common.{◌≡◌, ℕ, zero, suc, ◌+◌, ◌-◌, ◌*◌, ◌^◌, ◌<◌, ◌≤◌, ◌==◌, nat_le, Bool, true, false, not, cond, ◌&&◌, ◌||◌, List, [], ◌∷◌, length, take, drop, Option, Some, None, is_some, SomeIff, refl, sym, ap, ◌∙◌, subst, ⊎_elim, ◌⊎◌, inl, inr, arith, one-add, rules}
use Rattle.std.specs.Prelude.{find}
use Rattle.std.specs.Option.{option_map}
use Rattle.std.specs.List.{list_all, prefix_len}
use Rattle.std.proofs.lemmas.Bool.{cases_lt, cases_Bool, false≢true}
use Rattle.std.proofs.lemmas.Bool.Decides.{nat_tests}
use Rattle.std.proofs.lemmas.List.Sums.{prefix_len-le-length}
use Rattle.std.proofs.lemmas.List.{take-take, drop-take, length-drop, length-take-le}
use Rattle.c_syntax.specs.declared.token.Base.{Base}
use Rattle.c_syntax.specs.declared.token.Base.TheVariants as base
use Rattle.c_syntax.specs.declared.token.Suffix.{Suffix}
use Rattle.c_lexer.specs.Bytes.{is_digit, is_octal, is_hex, is_x, is_suffix_letter, digit_value, begins}
use Rattle.c_lexer.specs.Tables.{Row, row_of, suffixes}
use Rattle.c_lexer.specs.Lexemes.{is_name, constant_len, constant_in, suffix_in, is_run, zero_base, base_of, suffix_of, is_number, digits_of, radix, value, value_from, greatest, number_value, is_lexeme, kind_of, longest, token_at, piece_of}
use Rattle.c_lexer.specs.Scan.{in_front, constant_front, suffix_found, suffix_front, number_piece, number_by}
use Rattle.c_lexer.proofs.Longest.{longest_is, run_all, past_run, in_run, all_also, run_in_front, run_past_front}
use Rattle.c_lexer.proofs.Fronts.{and_false, and_left, and_right, has_length, rows_at, Falls, IsFirst, first_found, front_within, no_front}
use Rattle.c_lexer.proofs.Names.{digit_wordy, no_punctuator, no_char, digit_not_name, digit_not_quote}

times_more : (radix n : ℕ) → n ≤ suc radix * n
times_more radix n = omega arith

pub value_grows : (radix n : ℕ) (digits : List ℕ) → 1 ≤ radix → n ≤ value_from radix n digits
value_grows radix n [] le = omega arith
value_grows zero n (b ∷ digits) le = absurd (omega arith)
value_grows (suc radix) n (b ∷ digits) le = omega (arith, value_grows (suc radix) (suc radix * n + digit_value b) digits le, times_more radix n)

-- ---- constants

abbrev not_suffix_letter : ℕ → Bool
not_suffix_letter b = not (is_suffix_letter b)

-- the constant at the front has this base and this length, and no longer front is one
record Constant (bytes : List ℕ) (found : Base × ℕ) : Type 0 where
  base : base_of (take found.1 bytes) ≡ Some found.0
  some : 0 < found.1
  within : found.1 ≤ constant_len bytes
  no_longer : (k : ℕ) → found.1 < k → k ≤ length bytes → is_some (base_of (take k bytes)) ≡ false
  digits : list_all is_hex (digits_of found.0 (take found.1 bytes)) ≡ true

digit_no_letter : (b : ℕ) → is_digit b ≡ true → not (is_suffix_letter b) ≡ true
digit_no_letter b h = grind (arith, nat_tests)

octal_no_letter : (b : ℕ) → is_octal b ≡ true → not (is_suffix_letter b) ≡ true
octal_no_letter b h = grind (arith, nat_tests)

hex_no_letter : (b : ℕ) → is_hex b ≡ true → not (is_suffix_letter b) ≡ true
hex_no_letter b h = grind (arith, nat_tests)

x_no_letter : (b : ℕ) → is_x b ≡ true → not (is_suffix_letter b) ≡ true
x_no_letter b h = grind (arith, nat_tests)

digit_hex : (b : ℕ) → is_digit b ≡ true → is_hex b ≡ true
digit_hex b h = rw h refl

octal_hex : (b : ℕ) → is_octal b ≡ true → is_hex b ≡ true
octal_hex b h = grind (arith, nat_tests)

octal_not_x : (b : ℕ) → is_octal b ≡ true → is_x b ≡ false
octal_not_x b h = grind (arith, nat_tests)

zero_no_letter : (b : ℕ) → (b == 48) ≡ true → not (is_suffix_letter b) ≡ true
zero_no_letter b h = grind (arith, nat_tests)

zero_octal : (b : ℕ) → (b == 48) ≡ true → is_octal b ≡ true
zero_octal b h = grind (arith, nat_tests)

pub some_run : (test : ℕ → Bool) (xs : List ℕ) → begins test xs ≡ true → 0 < prefix_len test xs
some_run test [] h = absurd (false≢true h)
some_run test (x ∷ xs) h = rw h (omega arith)

run_begins : (test : ℕ → Bool) (xs : List ℕ) → 0 < prefix_len test xs → begins test xs ≡ true
run_begins test [] lt = absurd (omega arith)
run_begins test (x ∷ xs) lt =
    elim (test x) as (λ b. 0 < cond b (1 + prefix_len test xs) 0 → b ≡ true) [ true ↦ (λ lt. refl) | false ↦ (λ lt. absurd (omega (arith, lt))) ] lt

begins_front : (test : ℕ → Bool) (xs : List ℕ) (k : ℕ) → 0 < k → begins test (take k xs) ≡ begins test xs
begins_front test xs zero lt = absurd (omega arith)
begins_front test [] (suc k) lt = refl
begins_front test (x ∷ xs) (suc k) lt = refl

-- a run of digits holds no letter of a suffix
digits_within : (test : ℕ → Bool) → ((b : ℕ) → test b ≡ true → not (is_suffix_letter b) ≡ true) → (bytes : List ℕ) → prefix_len test bytes ≤ constant_len bytes
digits_within test no_letter bytes =
    in_run not_suffix_letter bytes (prefix_len test bytes) (prefix_len-le-length test bytes) (all_also test not_suffix_letter no_letter (take (prefix_len test bytes) bytes) (run_all test bytes))

module _ (b : ℕ) (bs : List ℕ) (first : is_digit b ≡ true) (other : (b == 48) ≡ false) where
  decimal_base : (k : ℕ) → 0 < k → base_of (take k (b ∷ bs)) ≡ cond (list_all is_digit (take k (b ∷ bs))) (Some base.Decimal) None
  decimal_base zero lt = absurd (omega arith)
  decimal_base (suc k) lt = rw other refl

  decimal_constant : Constant (b ∷ bs) (base.Decimal, prefix_len is_digit (b ∷ bs))
  decimal_constant =
      let n = prefix_len is_digit (b ∷ bs) in
      let lt = some_run is_digit (b ∷ bs) first in
      record {
        base = decimal_base n lt ∙ rw (run_all is_digit (b ∷ bs)) refl;
        some = lt;
        within = digits_within is_digit digit_no_letter (b ∷ bs);
        no_longer = λ k more le. let none : base_of (take k (b ∷ bs)) ≡ None = decimal_base k (omega (arith, more)) ∙ rw (past_run is_digit (b ∷ bs) k more le) refl in ap is_some none;
        digits = all_also is_digit is_hex digit_hex (take n (b ∷ bs)) (run_all is_digit (b ∷ bs));
      }

module _ (b x : ℕ) (ds : List ℕ) (zero_first : (b == 48) ≡ true) (then_x : is_x x ≡ true) (then_hex : begins is_hex ds ≡ true) where
  hex_base : (k : ℕ) → base_of (take (suc (suc k)) (b ∷ x ∷ ds)) ≡ cond (is_run is_hex (take k ds)) (Some base.Hexadecimal) None
  hex_base k = rw (zero_first, then_x) refl

  hex_run : is_run is_hex (take (prefix_len is_hex ds) ds) ≡ true
  hex_run = rw (begins_front is_hex ds (prefix_len is_hex ds) (some_run is_hex ds then_hex), then_hex, run_all is_hex ds) refl

  hex_past : (k : ℕ) → suc (suc (prefix_len is_hex ds)) < k → k ≤ length (b ∷ x ∷ ds) → is_some (base_of (take k (b ∷ x ∷ ds))) ≡ false
  hex_past zero more le = absurd (omega arith)
  hex_past (suc zero) more le = absurd (omega arith)
  hex_past (suc (suc k)) more le =
      let never = and_false (begins is_hex (take k ds)) (list_all is_hex (take k ds)) (past_run is_hex ds k (omega arith) (omega arith)) in
      let none : base_of (take (suc (suc k)) (b ∷ x ∷ ds)) ≡ None = hex_base k ∙ rw never refl in ap is_some none

  hex_letters : list_all not_suffix_letter (take (suc (suc (prefix_len is_hex ds))) (b ∷ x ∷ ds)) ≡ true
  hex_letters = rw (zero_no_letter b zero_first, x_no_letter x then_x) (all_also is_hex not_suffix_letter hex_no_letter (take (prefix_len is_hex ds) ds) (run_all is_hex ds))

  hex_constant : Constant (b ∷ x ∷ ds) (base.Hexadecimal, prefix_len is_hex ds + 2)
  hex_constant =
      let two : suc (suc (prefix_len is_hex ds)) ≡ prefix_len is_hex ds + 2 = omega arith in
      subst
      (λ n. Constant (b ∷ x ∷ ds) (base.Hexadecimal, n))
      two
      (record {
        base = hex_base (prefix_len is_hex ds) ∙ rw hex_run refl;
        some = omega arith;
        within = in_run not_suffix_letter (b ∷ x ∷ ds) (suc (suc (prefix_len is_hex ds))) (omega (arith, prefix_len-le-length is_hex ds)) hex_letters;
        no_longer = hex_past;
        digits = run_all is_hex ds;
      })

module _ (b : ℕ) (bs : List ℕ) (zero_first : (b == 48) ≡ true) where
  zero_at : (k : ℕ) → base_of (take (suc k) (b ∷ bs)) ≡ zero_base (take k bs)
  zero_at k = rw zero_first refl

  zero_run : prefix_len is_octal (b ∷ bs) ≡ suc (prefix_len is_octal bs)
  zero_run = rw (zero_octal b zero_first, one-add) refl

none_of : (x run all : Bool) → (x ≡ true → run ≡ false) → all ≡ false → is_some (cond x (cond run (Some base.Hexadecimal) None) (cond all (Some base.Octal) None)) ≡ false
none_of true run all h a = rw (h refl) refl
none_of false run all h a = rw a refl

-- behind the zero: no octal digit, and no hexadecimal ones behind `x`
no_digit : (bs : List ℕ) (k : ℕ) → 0 < k → k ≤ length bs → begins is_octal bs ≡ false → (begins is_x bs && begins is_hex (drop 1 bs)) ≡ false → is_some (zero_base (take k bs)) ≡ false
no_digit bs zero lt le other no_hex = absurd (omega arith)
no_digit [] (suc k) lt le other no_hex = absurd (omega arith)
no_digit (c ∷ cs) (suc k) lt le other no_hex = none_of (is_x c) (is_run is_hex (take k cs)) (list_all is_octal (c ∷ take k cs)) (λ x. no_run k (rw x at no_hex)) (rw other refl)
  where
    no_run : (k : ℕ) → begins is_hex cs ≡ false → is_run is_hex (take k cs) ≡ false
    no_run zero h = refl
    no_run (suc k) h = rw (begins_front is_hex cs (suc k) (omega arith), h) refl

zero_octals : (bs : List ℕ) (k : ℕ) → 0 < k → begins is_octal bs ≡ true → zero_base (take k bs) ≡ cond (list_all is_octal (take k bs)) (Some base.Octal) None
zero_octals bs zero lt h = absurd (omega arith)
zero_octals [] (suc k) lt h = absurd (false≢true h)
zero_octals (c ∷ cs) (suc k) lt h = rw (octal_not_x c h) refl

module _ (b : ℕ) (bs : List ℕ) (zero_first : (b == 48) ≡ true) (no_hex : (begins is_x bs && begins is_hex (drop 1 bs)) ≡ false) where
  alone_past : begins is_octal bs ≡ false → (k : ℕ) → 1 < k → k ≤ length (b ∷ bs) → is_some (base_of (take k (b ∷ bs))) ≡ false
  alone_past other zero more le = absurd (omega arith)
  alone_past other (suc k) more le = ap is_some (zero_at b bs zero_first k) ∙ no_digit bs k (omega arith) (omega arith) other no_hex

  octal_past : begins is_octal bs ≡ true → (k : ℕ) → suc (prefix_len is_octal bs) < k → k ≤ length (b ∷ bs) → is_some (base_of (take k (b ∷ bs))) ≡ false
  octal_past run zero more le = absurd (omega arith)
  octal_past run (suc k) more le =
      let none : base_of (take (suc k) (b ∷ bs)) ≡ None = zero_at b bs zero_first k ∙ zero_octals bs k (omega arith) run ∙ rw (past_run is_octal bs k (omega arith) (omega arith)) refl in ap is_some none

  all_hex : list_all is_hex (take (prefix_len is_octal (b ∷ bs)) (b ∷ bs)) ≡ true
  all_hex = all_also is_octal is_hex octal_hex (take (prefix_len is_octal (b ∷ bs)) (b ∷ bs)) (run_all is_octal (b ∷ bs))

  zero_constant : nat_le (prefix_len is_octal (b ∷ bs)) 1 ≡ true → Constant (b ∷ bs) (base.Decimal, prefix_len is_octal (b ∷ bs))
  zero_constant short =
      let r = zero_run b bs zero_first in
      let one : prefix_len is_octal (b ∷ bs) ≡ 1 = grind (arith, nat_tests) in
      let none : begins is_octal bs ≡ false = ⊎_elim (λ t. absurd (omega (arith, r, one, some_run is_octal bs t))) (λ f. f) (cases_Bool (begins is_octal bs)) in
      record {
        base = ap (λ k. base_of (take k (b ∷ bs))) one ∙ zero_at b bs zero_first 0;
        some = omega (arith, one);
        within = digits_within is_octal octal_no_letter (b ∷ bs);
        no_longer = λ k more le. alone_past none k (omega (arith, one, more)) le;
        digits = all_hex;
      }

  octal_constant : nat_le (prefix_len is_octal (b ∷ bs)) 1 ≡ false → Constant (b ∷ bs) (base.Octal, prefix_len is_octal (b ∷ bs))
  octal_constant long =
      let r = zero_run b bs zero_first in
      let lt : 0 < prefix_len is_octal bs = grind (arith, nat_tests) in
      let run = run_begins is_octal bs lt in
      record {
        base = ap (λ k. base_of (take k (b ∷ bs))) r ∙ zero_at b bs zero_first (prefix_len is_octal bs) ∙ zero_octals bs (prefix_len is_octal bs) lt run ∙ rw (run_all is_octal bs) refl;
        some = omega (arith, r);
        within = digits_within is_octal octal_no_letter (b ∷ bs);
        no_longer = λ k more le. octal_past run k (omega (arith, r, more)) le;
        digits = all_hex;
      }

with_x : (b : ℕ) (bs : List ℕ) → (b == 48) ≡ true → (begins is_x bs && begins is_hex (drop 1 bs)) ≡ true → Constant (b ∷ bs) (base.Hexadecimal, prefix_len is_hex (drop 1 bs) + 2)
with_x b [] z h = absurd (false≢true h)
with_x b (x ∷ ds) z h = hex_constant b x ds z (and_left (is_x x) (begins is_hex ds) h) (and_right (is_x x) (begins is_hex ds) h)

zero_by : (b : ℕ) (bs : List ℕ) → (b == 48) ≡ true → (hex : Bool) → (begins is_x bs && begins is_hex (drop 1 bs)) ≡ hex → (short : Bool) → nat_le (prefix_len is_octal (b ∷ bs)) 1 ≡ short → Constant (b ∷ bs) (constant_front (b ∷ bs))
zero_by b bs z true x short s = rw (z, x) (with_x b bs z x)
zero_by b bs z false x true s = rw (z, x, s) (zero_constant b bs z x s)
zero_by b bs z false x false s = rw (z, x, s) (octal_constant b bs z x s)

first_by : (b : ℕ) (bs : List ℕ) → is_digit b ≡ true → (zero_first : Bool) → (b == 48) ≡ zero_first → Constant (b ∷ bs) (constant_front (b ∷ bs))
first_by b bs first true z = zero_by b bs z (begins is_x bs && begins is_hex (drop 1 bs)) refl (nat_le (prefix_len is_octal (b ∷ bs)) 1) refl
first_by b bs first false z = rw z (decimal_constant b bs first z)

constant_at_front : (b : ℕ) (bs : List ℕ) → is_digit b ≡ true → Constant (b ∷ bs) (constant_front (b ∷ bs))
constant_at_front b bs first = first_by b bs first (b == 48) refl

-- ---- suffixes

-- the suffix at the front has this token and this length, and no longer front is one
record Ending (rest : List ℕ) (found : Suffix × ℕ) : Type 0 where
  suffix : suffix_of (take found.1 rest) ≡ Some found.0
  within : found.1 ≤ length rest
  no_longer : (k : ℕ) → found.1 < k → k ≤ length rest → is_some (suffix_of (take k rest)) ≡ false
  none : begins is_suffix_letter rest ≡ false → found.1 ≡ 0

suffixes_fall : Falls 3 suffixes
unfolding suffixes
suffixes_fall = search rules

suffixes_begin : list_all (λ row. begins is_suffix_letter row.0) suffixes ≡ true
unfolding suffixes
suffixes_begin = refl

suffix_in_table : (xs : List ℕ) → 0 < length xs → suffix_of xs ≡ option_map (λ row. row.1) (row_of suffixes false xs)
suffix_in_table [] lt = absurd (omega arith)
suffix_in_table (x ∷ xs) lt = refl

module _ (rest : List ℕ) where
  suffix_by_length : (k : ℕ) → 0 < k → k ≤ length rest → suffix_of (take k rest) ≡ option_map (λ row. row.1) (find (has_length (in_front false rest) k) suffixes)
  suffix_by_length k lt le =
      suffix_in_table (take k rest) (omega (arith, length-take-le k rest le)) ∙ ap (λ found. option_map (λ row. row.1) found) (rows_at suffixes false rest k le)

  no_suffix : (k : ℕ) → 0 < k → k ≤ length rest → find (has_length (in_front false rest) k) suffixes ≡ None → is_some (suffix_of (take k rest)) ≡ false
  no_suffix k lt le none = ap is_some (suffix_by_length k lt le ∙ ap (λ found. option_map (λ row. row.1) found) none)

  ending_by : (found : Option (Row Suffix)) → find (in_front false rest) suffixes ≡ found → IsFirst (in_front false rest) suffixes found → Ending rest (suffix_found (option_map (λ row. (row.1, length row.0)) found))
  ending_by None e first = record { suffix = refl; within = omega arith; no_longer = λ k more le. no_suffix k more le (first k); none = λ h. refl }
  ending_by (Some row) e first =
      let within = front_within row false rest first.0 in
      record {
        suffix = suffix_by_length (length row.0) first.1 within ∙ ap (λ found. option_map (λ row. row.1) found) first.2;
        within = within;
        no_longer = λ k more le. no_suffix k (omega (arith, more)) le (first.3 k more);
        none = λ h. let missing = sym e ∙ no_front is_suffix_letter suffixes false rest suffixes_begin h in absurd (some_none missing);
      }
    where
      some_none : {X : Type 0} {x : X} → Some x ≡ None → ⊥
      some_none same = cc

  suffix_at_front : Ending rest (suffix_front rest)
  suffix_at_front = ending_by (find (in_front false rest) suffixes) refl (first_found 3 suffixes (in_front false rest) suffixes_fall)

-- ---- both

and_true : (a : Bool) → (a && true) ≡ a
and_true true = refl
and_true false = refl

module _ (bytes : List ℕ) (k : ℕ) (le : k ≤ constant_len bytes) where
  upto_len : constant_len (take k bytes) ≡ k
  upto_len = run_in_front not_suffix_letter bytes k le

  upto_constant : constant_in (take k bytes) ≡ take k bytes
  upto_constant = ap (λ j. take j (take k bytes)) upto_len ∙ take-take k k bytes (omega arith)

  upto_suffix : suffix_in (take k bytes) ≡ []
  upto_suffix = let none : k ≡ k + 0 = omega arith in ap (λ j. drop j (take k bytes)) upto_len ∙ ap (λ j. drop k (take j bytes)) none ∙ drop-take k 0 bytes

  number_upto : is_number (take k bytes) ≡ is_some (base_of (take k bytes))
  unfolding is_number
  number_upto = rw (upto_suffix, upto_constant) (and_true (is_some (base_of (take k bytes))))

module _ (bytes : List ℕ) (k : ℕ) (le : constant_len bytes ≤ k) where
  past_len : constant_len (take k bytes) ≡ constant_len bytes
  past_len = run_past_front not_suffix_letter bytes k le

  past_constant : constant_in (take k bytes) ≡ take (constant_len bytes) bytes
  past_constant = ap (λ j. take j (take k bytes)) past_len ∙ take-take (constant_len bytes) k bytes le

  past_suffix : suffix_in (take k bytes) ≡ take (k - constant_len bytes) (drop (constant_len bytes) bytes)
  past_suffix =
      let whole : k ≡ constant_len bytes + (k - constant_len bytes) = omega (arith, le) in
      ap (λ j. drop j (take k bytes)) past_len ∙ ap (λ j. drop (constant_len bytes) (take j bytes)) whole ∙ drop-take (constant_len bytes) (k - constant_len bytes) bytes

  number_past : is_number (take k bytes) ≡ (is_some (base_of (take (constant_len bytes) bytes)) && is_some (suffix_of (take (k - constant_len bytes) (drop (constant_len bytes) bytes))))
  unfolding is_number
  number_past = rw (past_suffix, past_constant) refl

before_end : (test : ℕ → Bool) (xs : List ℕ) (m : ℕ) → m < prefix_len (λ b. not (test b)) xs → begins test (drop m xs) ≡ false
before_end test [] m lt = absurd (omega arith)
before_end test (x ∷ xs) zero lt =
    elim (test x) as (λ b. 0 < cond (not b) (1 + prefix_len (λ b. not (test b)) xs) 0 → b ≡ false) [ true ↦ (λ lt. absurd (omega (arith, lt))) | false ↦ (λ lt. refl) ] lt
before_end test (x ∷ xs) (suc m) lt =
    elim (test x) as (λ b. suc m < cond (not b) (1 + prefix_len (λ b. not (test b)) xs) 0 → begins test (drop m xs) ≡ false)
    [ true ↦ (λ lt. absurd (omega (arith, lt))) | false ↦ (λ lt. before_end test xs m (omega (arith, lt))) ]
    lt

-- what the front of so many bytes is made of
record Parts (bytes : List ℕ) (constant : Base × ℕ) (ending : Suffix × ℕ) : Type 0 where
  digits : constant_in (take (constant.1 + ending.1) bytes) ≡ take constant.1 bytes
  suffix : suffix_of (suffix_in (take (constant.1 + ending.1) bytes)) ≡ Some ending.0
  within : constant.1 + ending.1 ≤ length bytes
  no_longer : (k : ℕ) → constant.1 + ending.1 < k → k ≤ length bytes → is_number (take k bytes) ≡ false

module _ (bytes : List ℕ) (m : ℕ) (base : Base) (s : ℕ) (suffix : Suffix) (constant : Constant bytes (base, m)) (ending : Ending (drop m bytes) (suffix, s)) where
  fits : m + s ≤ length bytes
  fits = omega (arith, ending.within, length-drop m bytes, constant.within, prefix_len-le-length not_suffix_letter bytes)

  -- the constant ends where a letter of a suffix stands, or where the text ends
  module _ (same : m ≡ constant_len bytes) where
    behind : (k : ℕ) → take (k - constant_len bytes) (drop (constant_len bytes) bytes) ≡ take (k - m) (drop m bytes)
    behind k = ap (λ p. take (k - p) (drop p bytes)) (sym same)

    parts_at_letter : Parts bytes (base, m) (suffix, s)
    parts_at_letter =
        let le : constant_len bytes ≤ m + s = omega (arith, same) in
        let left : m + s - m ≡ s = omega arith in
        record {
          digits = past_constant bytes (m + s) le ∙ ap (λ p. take p bytes) (sym same);
          suffix = ap suffix_of (past_suffix bytes (m + s) le ∙ behind (m + s) ∙ ap (λ j. take j (drop m bytes)) left) ∙ ending.suffix;
          within = fits;
          no_longer = λ k more in_text.
              number_past bytes k (omega (arith, same, more))
              ∙ and_false _ _ (ap (λ xs. is_some (suffix_of xs)) (behind k) ∙ ending.no_longer (k - m) (omega (arith, more)) (omega (arith, length-drop m bytes, in_text)));
        }

  -- it ends before
  module _ (before : m < constant_len bytes) where
    no_ending : s ≡ 0
    no_ending = ending.none (before_end is_suffix_letter bytes m before)

    past_constant_len : (k : ℕ) → m < k → k ≤ length bytes → (constant_len bytes < k) ⊎ (k ≤ constant_len bytes) → is_number (take k bytes) ≡ false
    past_constant_len k more in_text (inl past) =
        number_past bytes k (omega (arith, past)) ∙ rw (constant.no_longer (constant_len bytes) before (prefix_len-le-length not_suffix_letter bytes)) refl
    past_constant_len k more in_text (inr upto) = number_upto bytes k upto ∙ constant.no_longer k more in_text

    parts_before : Parts bytes (base, m) (suffix, s)
    parts_before =
        let alone : m + s ≡ m = omega (arith, no_ending) in
        let le : m + s ≤ constant_len bytes = omega (arith, no_ending, before) in
        record {
          digits = upto_constant bytes (m + s) le ∙ ap (λ k. take k bytes) alone;
          suffix = ap suffix_of (upto_suffix bytes (m + s) le) ∙ ap (λ j. suffix_of (take j (drop m bytes))) (sym no_ending) ∙ ending.suffix;
          within = fits;
          no_longer = λ k more in_text. past_constant_len k (omega (arith, more)) in_text (cases_lt (constant_len bytes) k);
        }

  parts : Parts bytes (base, m) (suffix, s)
  parts = ⊎_elim parts_before (λ no_less. parts_at_letter (omega (arith, no_less, constant.within))) (cases_lt m (constant_len bytes))

-- ---- the number at the front

no_name : (annotated : Bool) (b : ℕ) (bs : List ℕ) (k : ℕ) → is_digit b ≡ true → is_name annotated (take k (b ∷ bs)) ≡ false
no_name annotated b bs zero first = refl
no_name annotated b bs (suc k) first = rw (digit_not_name annotated b first) refl

number_lexeme : (annotated : Bool) (b : ℕ) (bs : List ℕ) (k : ℕ) → 0 < k → is_digit b ≡ true → is_lexeme annotated (take k (b ∷ bs)) ≡ is_number (take k (b ∷ bs))
unfolding is_lexeme
number_lexeme annotated b bs zero lt first = absurd (omega arith)
number_lexeme annotated b bs (suc k) lt first =
    rw (no_punctuator annotated b (take k bs) (digit_wordy b first), no_char b (take k bs) (digit_not_quote b first), digit_not_name annotated b first) (no_more (is_number (b ∷ take k bs)))
  where
    no_more : (a : Bool) → (false || a || false || false) ≡ a
    no_more true = refl
    no_more false = refl

module _ (annotated : Bool) (b : ℕ) (bs : List ℕ) (first : is_digit b ≡ true) where
  abbrev bytes : List ℕ
  bytes = b ∷ bs

  abbrev constant : Base × ℕ
  constant = constant_front bytes

  abbrev ending : Suffix × ℕ
  ending = suffix_front (drop constant.1 bytes)

  made : Parts bytes constant ending
  made = parts bytes constant.1 constant.0 ending.1 ending.0 (constant_at_front b bs first) (suffix_at_front (drop constant.1 bytes))

  is_one : is_number (take (constant.1 + ending.1) bytes) ≡ true
  unfolding is_number
  is_one = rw (made.suffix, made.digits, (constant_at_front b bs first).base) refl

  number_longest : longest (is_lexeme annotated) bytes (length bytes) ≡ constant.1 + ending.1
  number_longest =
      longest_is
      (is_lexeme annotated)
      bytes
      (constant.1 + ending.1)
      (record {
        within = made.within;
        passes = λ lt. number_lexeme annotated b bs _ lt first ∙ is_one;
        no_longer = λ k more le. number_lexeme annotated b bs k (omega (arith, more)) first ∙ made.no_longer k more le;
      })

  number_token : token_at annotated bytes ≡ number_piece annotated bytes constant ending
  unfolding token_at kind_of
  number_token = rw (number_longest, no_name annotated b bs (constant.1 + ending.1) first, is_one, made.suffix, made.digits, (constant_at_front b bs first).base) refl

pub number_at_front : (annotated : Bool) (bytes : List ℕ) → begins is_digit bytes ≡ true → token_at annotated bytes ≡ number_piece annotated bytes (constant_front bytes) (suffix_front (drop (constant_front bytes).1 bytes))
number_at_front annotated [] first = absurd (false≢true first)
number_at_front annotated (b ∷ bs) first = number_token annotated b bs first

-- for the code: its constant lies within, and has digits
pub constant_fits : (bytes : List ℕ) → begins is_digit bytes ≡ true → (constant_front bytes).1 ≤ length bytes
constant_fits [] first = absurd (false≢true first)
constant_fits (b ∷ bs) first = omega (arith, (constant_at_front b bs first).within, prefix_len-le-length not_suffix_letter (b ∷ bs))

pub constant_digits : (bytes : List ℕ) → begins is_digit bytes ≡ true → list_all is_hex (digits_of (constant_front bytes).0 (take (constant_front bytes).1 bytes)) ≡ true
constant_digits [] first = absurd (false≢true first)
constant_digits (b ∷ bs) first = (constant_at_front b bs first).digits

-- a value that doesn't fit is above the greatest
number_fits : (annotated : Bool) (base : Base) (suffix : Suffix) (value n : ℕ) (found : Option ℕ) → SomeIff found (value < 2 ^ 128) value → number_by annotated base suffix found n ≡ piece_of n (number_value annotated base suffix value)
number_fits annotated base suffix value n (Some found) fits = ap (λ v. piece_of n (number_value annotated base suffix v)) fits.1
number_fits annotated base suffix value n None fits =
    ⊎_elim (λ less. absurd (fits less)) (λ more. let above = too_great annotated value more in rw above refl) (cases_lt value (2 ^ 128))
  where
    too_great : (annotated : Bool) (value : ℕ) → 2 ^ 128 ≤ value → nat_le value (greatest annotated) ≡ false
    too_great true value le = grind (arith, nat_tests)
    too_great false value le = grind (arith, nat_tests)

-- in the words of the function's parts
pub number_found : (annotated : Bool) (bytes : List ℕ) (constant : Base × ℕ) (ending : Suffix × ℕ) (found : Option ℕ) → begins is_digit bytes ≡ true → constant ≡ constant_front bytes → ending ≡ suffix_front (drop constant.1 bytes)
    → SomeIff found (value (radix constant.0) (digits_of constant.0 (take constant.1 bytes)) < 2 ^ 128) (value (radix constant.0) (digits_of constant.0 (take constant.1 bytes)))
    → number_by annotated constant.0 ending.0 found (constant.1 + ending.1) ≡ token_at annotated bytes
number_found annotated bytes constant ending found first e f fits =
    number_fits annotated constant.0 ending.0 _ (constant.1 + ending.1) found fits
    ∙ ap (number_piece annotated bytes constant) f
    ∙ ap (λ k. number_piece annotated bytes k (suffix_front (drop k.1 bytes))) e
    ∙ sym (number_at_front annotated bytes first)

pub digits_found : (bytes : List ℕ) (found : Base × ℕ) → begins is_digit bytes ≡ true → found ≡ constant_front bytes → list_all is_hex (digits_of found.0 (take found.1 bytes)) ≡ true
digits_found bytes found first e = ap (λ k. list_all is_hex (digits_of k.0 (take k.1 bytes))) e ∙ constant_digits bytes first
