-- The character constant at the front of a text: one length alone is one.
use Rattle.std.proofs.Common.{◌≡◌, ℕ, zero, suc, ◌+◌, ◌-◌, ◌<◌, ◌≤◌, ◌==◌, eqb, nat_le, Bool, true, false, cond, ◌&&◌, ◌||◌, List, [], ◌∷◌, length, take, drop, Option, Some, None, is_some, Err, refl, sym, ap, ◌∙◌, subst, ⊎_elim, arith}
use Rattle.std.specs.Option.{option_map}
use Rattle.std.specs.List.{list_all, prefix_len}
use Rattle.std.specs.Str.{bytes_eq}
use Rattle.std.proofs.lemmas.Bool.{cases_lt, cases_Bool, false≢true}
use Rattle.std.proofs.lemmas.Bool.Decides.{nat_tests, Decides-eqb}
use Rattle.std.proofs.lemmas.List.{take-take, drop-take, length-drop}
use Rattle.wp_base.specs.declared.answers.Rule.TheVariants as rule
use Rattle.c_lexer.specs.declared.piece.Piece.TheVariants as piece
use Rattle.c_lexer.specs.Bytes.{is_octal, is_hex, is_plain, letter_escape, opens_name, begins}
use Rattle.c_lexer.specs.Tables.{punctuators}
use Rattle.c_lexer.specs.Lexemes.{value, octal_escape, hex_escape, escape, written, closed, char_value, char_kind, is_number, is_lexeme, kind_of, token_at, piece_of}
use Rattle.c_lexer.specs.Scan.{small, char_piece}
use Rattle.c_lexer.proofs.Longest.{longest_none, longest_only, run_all, all_also, run_in_front, run_past_front}
use Rattle.c_lexer.proofs.Fronts.{and_false}
use Rattle.c_lexer.proofs.Names.{quote_wordy, no_punctuator, no_number, no_lexeme, quote_not_name, quote_not_digit}

-- for the code: digits of a run are hexadecimal
octal_hex : (b : ℕ) → is_octal b ≡ true → is_hex b ≡ true
octal_hex b h = grind (arith, nat_tests)

pub octal_digits : (bytes : List ℕ) → list_all is_hex (take (prefix_len is_octal bytes) bytes) ≡ true
octal_digits bytes = all_also is_octal is_hex octal_hex (take (prefix_len is_octal bytes) bytes) (run_all is_octal bytes)

pub hex_digits : (bytes : List ℕ) → list_all is_hex (take (prefix_len is_hex bytes) bytes) ≡ true
hex_digits bytes = run_all is_hex bytes

-- ---- what is written, behind which a quote stands

abbrev pub is_quote : ℕ → Bool
is_quote b = b == 39

abbrev pub quoted : List ℕ → Option (ℕ × ℕ) → Option (ℕ × ℕ)
quoted bytes None = None
quoted bytes (Some c) = cond (begins is_quote (drop c.1 bytes)) (Some c) None

-- its value, in a front of one byte more
abbrev at_len : (k : ℕ) → Option (ℕ × ℕ) → Option ℕ
at_len k None = None
at_len k (Some c) = cond (eqb k (suc c.1)) (Some c.0) None

drop_front : (xs : List ℕ) (k : ℕ) → drop k (take k xs) ≡ []
drop_front xs k = let whole : k ≡ k + 0 = omega arith in ap (λ j. drop k (take j xs)) whole ∙ drop-take k 0 xs

quote_alone : (xs : List ℕ) (k : ℕ) → k ≤ length xs → bytes_eq (take k xs) (39 ∷ []) ≡ (begins is_quote xs && eqb k 1)
quote_alone [] zero le = refl
quote_alone [] (suc k) le = absurd (omega arith)
quote_alone (x ∷ xs) zero le = sym (and_false (x == 39) _ refl)
quote_alone (x ∷ xs) (suc zero) le = refl
quote_alone (x ∷ []) (suc (suc k)) le = absurd (omega arith)
quote_alone (x ∷ y ∷ xs) (suc (suc k)) le = let other : eqb (suc (suc k)) 1 ≡ false = grind (arith, nat_tests) in rw other refl

-- the character needs n bytes
module _ (bs : List ℕ) (k v n : ℕ) (le : k ≤ length bs) where
  long_enough : n ≤ k → closed (take k bs) (Some (v, n)) ≡ at_len k (quoted bs (Some (v, n)))
  long_enough enough =
      let whole : k ≡ n + (k - n) = omega (arith, enough) in
      let rest = ap (λ j. drop n (take j bs)) whole ∙ drop-take n (k - n) bs in
      let last : eqb (k - n) 1 ≡ eqb k (suc n) = grind (arith, nat_tests) in
      ap (λ xs. cond (bytes_eq xs (39 ∷ [])) (Some v) None) rest
      ∙ ap (λ b. cond b (Some v) None) (quote_alone (drop n bs) (k - n) (omega (arith, length-drop n bs)) ∙ ap (λ b. begins is_quote (drop n bs) && b) last)
      ∙ both (begins is_quote (drop n bs))
    where
      both : (a : Bool) → cond (a && eqb k (suc n)) (Some v) None ≡ at_len k (cond a (Some (v, n)) None)
      both true = refl
      both false = refl

  too_short : k < n → at_len k (quoted bs (Some (v, n))) ≡ None
  too_short short = let other : eqb k (suc n) ≡ false = grind (arith, nat_tests) in by_quote other (begins is_quote (drop n bs))
    where
      by_quote : eqb k (suc n) ≡ false → (a : Bool) → at_len k (cond a (Some (v, n)) None) ≡ None
      by_quote other true = rw other refl
      by_quote other false = refl

  -- a front that holds the character is read as it, a shorter one isn't closed
  cut_by : (n ≤ k → written (take k bs) ≡ Some (v, n)) → (k < n → closed (take k bs) (written (take k bs)) ≡ None) → closed (take k bs) (written (take k bs)) ≡ at_len k (quoted bs (Some (v, n)))
  cut_by same open_end =
      ⊎_elim
      (λ short. open_end short ∙ sym (too_short short))
      (λ enough. ap (closed (take k bs)) (same enough) ∙ long_enough enough)
      (cases_lt k n)

-- all fronts, against what the whole gives
abbrev Exact : List ℕ → Option (ℕ × ℕ) → Type 0
Exact bs found = (k : ℕ) → k ≤ length bs → closed (take k bs) (written (take k bs)) ≡ at_len k (quoted bs found)

plus_one : (k : ℕ) → k + 1 ≡ suc k
plus_one k = omega arith

plus_two : (k : ℕ) → k + 2 ≡ suc (suc k)
plus_two k = omega arith

-- ---- octal escapes

abbrev octal_of : List ℕ → (n : ℕ) → Option (ℕ × ℕ)
octal_of xs n = cond (nat_le n 3) (Some (value 8 (take n xs), n + 1)) None

octal_same : (xs : List ℕ) (k : ℕ) → prefix_len is_octal xs ≤ k → octal_escape (take k xs) ≡ octal_escape xs
octal_same xs k le =
    ap (octal_of (take k xs)) (run_past_front is_octal xs k le)
    ∙ ap (λ ys. cond (nat_le (prefix_len is_octal xs) 3) (Some (value 8 ys, prefix_len is_octal xs + 1)) None) (take-take (prefix_len is_octal xs) k xs le)

octal_open : (b : ℕ) (xs : List ℕ) (k : ℕ) → k < prefix_len is_octal xs → closed (b ∷ take k xs) (octal_escape (take k xs)) ≡ None
octal_open b xs k lt = ap (λ n. closed (b ∷ take k xs) (octal_of (take k xs) n)) (run_in_front is_octal xs k (omega (arith, lt))) ∙ by_len (nat_le k 3)
  where
    nothing : drop (k + 1) (b ∷ take k xs) ≡ []
    nothing = ap (λ n. drop n (b ∷ take k xs)) (plus_one k) ∙ drop_front xs k

    by_len : (few : Bool) → closed (b ∷ take k xs) (cond few (Some (value 8 (take k (take k xs)), k + 1)) None) ≡ None
    by_len true = rw nothing refl
    by_len false = refl

octal_none : (xs : List ℕ) → nat_le (prefix_len is_octal xs) 3 ≡ false → octal_escape xs ≡ None
octal_none xs many = rw many refl

octal_some : (xs : List ℕ) → nat_le (prefix_len is_octal xs) 3 ≡ true → octal_escape xs ≡ Some (value 8 (take (prefix_len is_octal xs) xs), prefix_len is_octal xs + 1)
octal_some xs few = rw few refl

module _ (b c : ℕ) (cs : List ℕ) (backslash : (b == 92) ≡ true) (octal : is_octal c ≡ true) where
  octal_read : (k : ℕ) → 0 < k → written (b ∷ take k (c ∷ cs)) ≡ octal_escape (take k (c ∷ cs))
  octal_read zero lt = absurd (omega arith)
  octal_read (suc k) lt = rw (backslash, octal) refl

  nothing_read : closed (b ∷ []) (written (b ∷ [])) ≡ None
  nothing_read = rw backslash refl

  octal_first : 0 < prefix_len is_octal (c ∷ cs)
  octal_first = rw octal (omega arith)

  octal_short : (k : ℕ) → k < prefix_len is_octal (c ∷ cs) → closed (b ∷ take k (c ∷ cs)) (written (b ∷ take k (c ∷ cs))) ≡ None
  octal_short zero lt = nothing_read
  octal_short (suc k) lt = ap (closed (b ∷ take (suc k) (c ∷ cs))) (octal_read (suc k) (omega arith)) ∙ octal_open b (c ∷ cs) (suc k) lt

  octal_long : (k : ℕ) → prefix_len is_octal (c ∷ cs) ≤ k → written (b ∷ take k (c ∷ cs)) ≡ octal_escape (c ∷ cs)
  octal_long k le = octal_read k (omega (arith, le, octal_first)) ∙ octal_same (c ∷ cs) k le

  octal_exact : Exact (b ∷ c ∷ cs) (octal_escape (c ∷ cs))
  octal_exact =
      ⊎_elim
      (λ few. subst (Exact (b ∷ c ∷ cs)) (sym (octal_some (c ∷ cs) few)) (if_few few))
      (λ many. subst (Exact (b ∷ c ∷ cs)) (sym (octal_none (c ∷ cs) many)) (if_many many))
      (cases_Bool (nat_le (prefix_len is_octal (c ∷ cs)) 3))
    where
      if_few : nat_le (prefix_len is_octal (c ∷ cs)) 3 ≡ true → Exact (b ∷ c ∷ cs) (Some (value 8 (take (prefix_len is_octal (c ∷ cs)) (c ∷ cs)), prefix_len is_octal (c ∷ cs) + 1))
      if_few few zero le = sym (too_short (b ∷ c ∷ cs) 0 _ _ le (omega arith))
      if_few few (suc k) le =
          cut_by (b ∷ c ∷ cs) (suc k) _ _ le (λ enough. octal_long k (omega (arith, enough)) ∙ octal_some (c ∷ cs) few) (λ short. octal_short k (omega (arith, short)))

      if_many : nat_le (prefix_len is_octal (c ∷ cs)) 3 ≡ false → Exact (b ∷ c ∷ cs) None
      if_many many zero le = refl
      if_many many (suc k) le =
          ⊎_elim
          (λ short. octal_short k short)
          (λ enough. ap (closed (b ∷ take k (c ∷ cs))) (octal_long k enough ∙ octal_none (c ∷ cs) many))
          (cases_lt k (prefix_len is_octal (c ∷ cs)))

-- ---- hexadecimal escapes

abbrev hex_of : List ℕ → (n : ℕ) → Option (ℕ × ℕ)
hex_of xs n = cond (nat_le 1 n) (Some (value 16 (take n xs), n + 2)) None

hex_same : (xs : List ℕ) (k : ℕ) → prefix_len is_hex xs ≤ k → hex_escape (take k xs) ≡ hex_escape xs
hex_same xs k le =
    ap (hex_of (take k xs)) (run_past_front is_hex xs k le)
    ∙ ap (λ ys. cond (nat_le 1 (prefix_len is_hex xs)) (Some (value 16 ys, prefix_len is_hex xs + 2)) None) (take-take (prefix_len is_hex xs) k xs le)

hex_open : (b x : ℕ) (xs : List ℕ) (k : ℕ) → k < prefix_len is_hex xs → closed (b ∷ x ∷ take k xs) (hex_escape (take k xs)) ≡ None
hex_open b x xs k lt = ap (λ n. closed (b ∷ x ∷ take k xs) (hex_of (take k xs) n)) (run_in_front is_hex xs k (omega (arith, lt))) ∙ by_len (nat_le 1 k)
  where
    nothing : drop (k + 2) (b ∷ x ∷ take k xs) ≡ []
    nothing = ap (λ n. drop n (b ∷ x ∷ take k xs)) (plus_two k) ∙ drop_front xs k

    by_len : (some : Bool) → closed (b ∷ x ∷ take k xs) (cond some (Some (value 16 (take k (take k xs)), k + 2)) None) ≡ None
    by_len true = rw nothing refl
    by_len false = refl

hex_none : (xs : List ℕ) → nat_le 1 (prefix_len is_hex xs) ≡ false → hex_escape xs ≡ None
hex_none xs none = rw none refl

hex_some : (xs : List ℕ) → nat_le 1 (prefix_len is_hex xs) ≡ true → hex_escape xs ≡ Some (value 16 (take (prefix_len is_hex xs) xs), prefix_len is_hex xs + 2)
hex_some xs some = rw some refl

module _ (b x : ℕ) (xs : List ℕ) (backslash : (b == 92) ≡ true) (not_octal : is_octal x ≡ false) (then_x : (x == 120) ≡ true) where
  hex_read : (k : ℕ) → written (b ∷ x ∷ take k xs) ≡ hex_escape (take k xs)
  hex_read k = rw (backslash, not_octal, then_x) refl

  hex_short : (k : ℕ) → k < prefix_len is_hex xs → closed (b ∷ x ∷ take k xs) (written (b ∷ x ∷ take k xs)) ≡ None
  hex_short k lt = ap (closed (b ∷ x ∷ take k xs)) (hex_read k) ∙ hex_open b x xs k lt

  hex_long : (k : ℕ) → prefix_len is_hex xs ≤ k → written (b ∷ x ∷ take k xs) ≡ hex_escape xs
  hex_long k le = hex_read k ∙ hex_same xs k le

  x_alone : closed (b ∷ []) (written (b ∷ [])) ≡ None
  x_alone = rw backslash refl

  hex_exact : Exact (b ∷ x ∷ xs) (hex_escape xs)
  hex_exact =
      ⊎_elim
      (λ some. subst (Exact (b ∷ x ∷ xs)) (sym (hex_some xs some)) (if_some some))
      (λ none. subst (Exact (b ∷ x ∷ xs)) (sym (hex_none xs none)) (if_none none))
      (cases_Bool (nat_le 1 (prefix_len is_hex xs)))
    where
      if_some : nat_le 1 (prefix_len is_hex xs) ≡ true → Exact (b ∷ x ∷ xs) (Some (value 16 (take (prefix_len is_hex xs) xs), prefix_len is_hex xs + 2))
      if_some some zero le = sym (too_short (b ∷ x ∷ xs) 0 _ _ le (omega arith))
      if_some some (suc zero) le = x_alone ∙ sym (too_short (b ∷ x ∷ xs) 1 _ _ le (omega arith))
      if_some some (suc (suc k)) le =
          cut_by (b ∷ x ∷ xs) (suc (suc k)) _ _ le (λ enough. hex_long k (omega (arith, enough)) ∙ hex_some xs some) (λ short. hex_short k (omega (arith, short)))

      if_none : nat_le 1 (prefix_len is_hex xs) ≡ false → Exact (b ∷ x ∷ xs) None
      if_none none zero le = refl
      if_none none (suc zero) le = x_alone
      if_none none (suc (suc k)) le =
          ⊎_elim
          (λ short. hex_short k short)
          (λ enough. ap (closed (b ∷ x ∷ take k xs)) (hex_long k enough ∙ hex_none xs none))
          (cases_lt k (prefix_len is_hex xs))

-- ---- escapes of one letter, and plain characters

letter_exact : (b x : ℕ) (xs : List ℕ) → (b == 92) ≡ true → is_octal x ≡ false → (x == 120) ≡ false → Exact (b ∷ x ∷ xs) (option_map (λ v. (v, 2)) (letter_escape x))
letter_exact b x xs backslash not_octal not_x zero le = by_found (letter_escape x)
  where
    by_found : (found : Option ℕ) → None ≡ at_len 0 (quoted (b ∷ x ∷ xs) (option_map (λ v. (v, 2)) found))
    by_found None = refl
    by_found (Some v) = sym (too_short (b ∷ x ∷ xs) 0 v 2 le (omega arith))
letter_exact b x xs backslash not_octal not_x (suc zero) le = alone ∙ by_found (letter_escape x)
  where
    alone : closed (b ∷ []) (written (b ∷ [])) ≡ None
    alone = rw backslash refl

    by_found : (found : Option ℕ) → None ≡ at_len 1 (quoted (b ∷ x ∷ xs) (option_map (λ v. (v, 2)) found))
    by_found None = refl
    by_found (Some v) = sym (too_short (b ∷ x ∷ xs) 1 v 2 le (omega arith))
letter_exact b x xs backslash not_octal not_x (suc (suc k)) le = ap (closed (b ∷ x ∷ take k xs)) read ∙ by_found (letter_escape x)
  where
    read : written (b ∷ x ∷ take k xs) ≡ option_map (λ v. (v, 2)) (letter_escape x)
    read = rw (backslash, not_octal, not_x) refl

    by_found : (found : Option ℕ) → closed (b ∷ x ∷ take k xs) (option_map (λ v. (v, 2)) found) ≡ at_len (suc (suc k)) (quoted (b ∷ x ∷ xs) (option_map (λ v. (v, 2)) found))
    by_found None = refl
    by_found (Some v) = long_enough (b ∷ x ∷ xs) (suc (suc k)) v 2 le (omega arith)

escape_end : (b : ℕ) → (b == 92) ≡ true → Exact (b ∷ []) None
escape_end b backslash zero le = refl
escape_end b backslash (suc zero) le = rw backslash refl
escape_end b backslash (suc (suc k)) le = absurd (omega arith)

escape_by : (b x : ℕ) (xs : List ℕ) → (b == 92) ≡ true → (octal : Bool) → is_octal x ≡ octal → (hex : Bool) → (x == 120) ≡ hex → Exact (b ∷ x ∷ xs) (escape (x ∷ xs))
escape_by b x xs backslash true o hex h =
    subst (Exact (b ∷ x ∷ xs)) (sym (ap (λ t. cond t (octal_escape (x ∷ xs)) (cond (x == 120) (hex_escape xs) (option_map (λ v. (v, 2)) (letter_escape x)))) o)) (octal_exact b x xs backslash o)
escape_by b x xs backslash false o true h = rw (o, h) (hex_exact b x xs backslash o h)
escape_by b x xs backslash false o false h = rw (o, h) (letter_exact b x xs backslash o h)

escape_exact : (b : ℕ) (xs : List ℕ) → (b == 92) ≡ true → Exact (b ∷ xs) (escape xs)
escape_exact b [] backslash = escape_end b backslash
escape_exact b (x ∷ xs) backslash = escape_by b x xs backslash (is_octal x) refl (x == 120) refl

plain_exact : (b : ℕ) (xs : List ℕ) → (b == 92) ≡ false → (plain : Bool) → is_plain b ≡ plain → Exact (b ∷ xs) (cond plain (Some (b, 1)) None)
plain_exact b xs other true p zero le = sym (too_short (b ∷ xs) 0 b 1 le (omega arith))
plain_exact b xs other false p zero le = refl
plain_exact b xs other true p (suc k) le = ap (closed (b ∷ take k xs)) read ∙ long_enough (b ∷ xs) (suc k) b 1 le (omega arith)
  where
    read : written (b ∷ take k xs) ≡ Some (b, 1)
    read = ap (λ t. cond t (escape (take k xs)) (cond (is_plain b) (Some (b, 1)) None)) other ∙ ap (λ t. cond t (Some (b, 1)) None) p
plain_exact b xs other false p (suc k) le = ap (closed (b ∷ take k xs)) read
  where
    read : written (b ∷ take k xs) ≡ None
    read = ap (λ t. cond t (escape (take k xs)) (cond (is_plain b) (Some (b, 1)) None)) other ∙ ap (λ t. cond t (Some (b, 1)) None) p

nothing_exact : Exact [] None
nothing_exact zero le = refl
nothing_exact (suc k) le = absurd (omega arith)

char_by : (b : ℕ) (xs : List ℕ) → (backslash : Bool) → (b == 92) ≡ backslash → Exact (b ∷ xs) (cond backslash (escape xs) (cond (is_plain b) (Some (b, 1)) None))
char_by b xs true e = escape_exact b xs e
char_by b xs false e = plain_exact b xs e (is_plain b) refl

char_exact : (bs : List ℕ) → Exact bs (written bs)
char_exact [] = nothing_exact
char_exact (b ∷ xs) = char_by b xs (b == 92) refl

-- ---- the constant at the front

module _ (annotated : Bool) (q : ℕ) (bs : List ℕ) (quote : (q == 39) ≡ true) where
  char_of : (k : ℕ) → k ≤ length bs → char_value (q ∷ take k bs) ≡ at_len k (quoted bs (written bs))
  unfolding char_value
  char_of k le = rw quote (char_exact bs k le)

  no_name : (k : ℕ) → begins (opens_name annotated) (take k (q ∷ bs)) ≡ false
  no_name zero = refl
  no_name (suc k) = quote_not_name annotated q quote

  char_lexeme : (k : ℕ) → k ≤ length bs → is_lexeme annotated (q ∷ take k bs) ≡ is_some (at_len k (quoted bs (written bs)))
  unfolding is_lexeme
  char_lexeme k le =
      rw (no_punctuator annotated q (take k bs) (quote_wordy q quote), no_number q (take k bs) (quote_not_digit q quote), quote_not_name annotated q quote, char_of k le) (no_more (is_some (at_len k (quoted bs (written bs)))))
    where
      no_more : (a : Bool) → (false || false || a || false) ≡ a
      no_more true = refl
      no_more false = refl

  front_lexeme : (found : Option (ℕ × ℕ)) → quoted bs (written bs) ≡ found → (k : ℕ) → k ≤ length (q ∷ bs) → is_lexeme annotated (take (suc k) (q ∷ bs)) ≡ is_lexeme annotated (q ∷ take k bs)
  front_lexeme found e k le = refl

  nothing_at : is_lexeme annotated [] ≡ false
  nothing_at = no_lexeme annotated

  none_at : quoted bs (written bs) ≡ None → (k : ℕ) → k ≤ length (q ∷ bs) → is_lexeme annotated (take k (q ∷ bs)) ≡ false
  none_at e zero le = nothing_at
  none_at e (suc k) le = char_lexeme k (omega arith) ∙ ap (λ found. is_some (at_len k found)) e

  one_at : (v n : ℕ) → quoted bs (written bs) ≡ Some (v, n) → (k : ℕ) → k ≤ length (q ∷ bs) → is_lexeme annotated (take k (q ∷ bs)) ≡ eqb k (n + 2)
  one_at v n e zero le = let other : eqb 0 (n + 2) ≡ false = grind (arith, nat_tests) in nothing_at ∙ sym other
  one_at v n e (suc k) le =
      let same : eqb k (suc n) ≡ eqb (suc k) (n + 2) = grind (arith, nat_tests) in
      char_lexeme k (omega arith) ∙ ap (λ found. is_some (at_len k found)) e ∙ by_test (eqb k (suc n)) ∙ same
    where
      by_test : (b : Bool) → is_some (cond b (Some v) None) ≡ b
      by_test true = refl
      by_test false = refl

-- what is closed lies within
quote_within : (bs : List ℕ) (n : ℕ) → begins is_quote (drop n bs) ≡ true → suc n ≤ length bs
quote_within [] zero h = absurd (false≢true h)
quote_within [] (suc n) h = absurd (false≢true h)
quote_within (b ∷ bs) zero h = omega arith
quote_within (b ∷ bs) (suc n) h = omega (arith, quote_within bs n h)

pub no_kind : (annotated : Bool) → kind_of annotated [] ≡ Err rule.Lexical
unfolding kind_of is_number char_value punctuators
no_kind true = refl
no_kind false = refl

module _ (annotated : Bool) (q : ℕ) (bs : List ℕ) (quote : (q == 39) ≡ true) where
  char_kind_at : (v n : ℕ) → n + 2 ≤ length (q ∷ bs) → quoted bs (written bs) ≡ Some (v, n) → kind_of annotated (take (n + 2) (q ∷ bs)) ≡ char_kind (Some v)
  unfolding kind_of
  char_kind_at v n le e =
      let value : char_value (q ∷ take (suc n) bs) ≡ Some v =
      char_of annotated q bs quote (suc n) (omega (arith, le)) ∙ ap (at_len (suc n)) e ∙ rw (self (suc n)) refl
      in
      rw (plus_two n, quote_not_name annotated q quote, no_number q (take (suc n) bs) (quote_not_digit q quote), value) refl
    where
      self : (n : ℕ) → eqb n n ≡ true
      self n = (Decides-eqb n n).1 refl

  closes : Option (ℕ × ℕ) → Bool
  closes None = false
  closes (Some c) = begins is_quote (drop c.1 bs)

  if_none : quoted bs (written bs) ≡ None → token_at annotated (q ∷ bs) ≡ piece.Fault rule.Lexical
  unfolding token_at
  if_none e = rw (longest_none (is_lexeme annotated) (q ∷ bs) (none_at annotated q bs quote e), no_kind annotated) refl

  if_some : (v n : ℕ) → suc n ≤ length bs → quoted bs (written bs) ≡ Some (v, n) → token_at annotated (q ∷ bs) ≡ piece_of (n + 2) (char_kind (Some v))
  unfolding token_at
  if_some v n le e =
      let fits : n + 2 ≤ length (q ∷ bs) = omega (arith, le) in
      rw (longest_only (is_lexeme annotated) (q ∷ bs) (n + 2) fits (one_at annotated q bs quote v n e), char_kind_at v n fits e) refl

  token_by : (w : Option (ℕ × ℕ)) → written bs ≡ w → token_at annotated (q ∷ bs) ≡ char_piece bs w
  token_by None e = if_none (ap (quoted bs) e)
  token_by (Some c) e = by_quote (begins is_quote (drop c.1 bs)) refl
    where
      by_quote : (h : Bool) → begins is_quote (drop c.1 bs) ≡ h → token_at annotated (q ∷ bs) ≡ char_piece bs (Some c)
      by_quote true h = rw h (if_some c.0 c.1 (quote_within bs c.1 h) (ap (quoted bs) e ∙ rw h refl))
      by_quote false h = rw h (if_none (ap (quoted bs) e ∙ rw h refl))

-- a value of more than 8 bits is no character
small_alike : (behind : List ℕ) (w : Option (ℕ × ℕ)) → char_piece behind w ≡ char_piece behind (small w)
small_alike behind None = refl
small_alike behind (Some c) = by_size (nat_le c.0 255) refl (begins is_quote (drop c.1 behind))
  where
    same : (a : Bool) → cond a (piece.Fault rule.Lexical) (piece.Fault rule.Lexical) ≡ piece.Fault rule.Lexical
    same true = refl
    same false = refl

    by_size : (few : Bool) → nat_le c.0 255 ≡ few → (closed : Bool) → char_piece behind (Some c) ≡ char_piece behind (cond few (Some c) None)
    by_size true e closed = refl
    by_size false e closed = rw e (same (begins (λ b. b == 39) (drop c.1 behind)))

pub char_at_front : (annotated : Bool) (bytes : List ℕ) → begins (λ b. b == 39) bytes ≡ true → token_at annotated bytes ≡ char_piece (drop 1 bytes) (small (written (drop 1 bytes)))
char_at_front annotated [] h = absurd (false≢true h)
char_at_front annotated (q ∷ bs) h = token_by annotated q bs h (written bs) refl ∙ small_alike bs (written bs)
