-- The first byte tells names, numbers, character constants and punctuators apart.
use Rattle.std.proofs.Common.{◌≡◌, ℕ, zero, suc, ◌+◌, ◌==◌, Bool, true, false, not, ◌||◌, List, [], ◌∷◌, length, take, drop, None, is_some, refl, sym, ap, ◌∙◌, arith, one-add}
use Rattle.std.specs.List.{list_all, prefix_len}
use Rattle.std.proofs.lemmas.Bool.{false≢true}
use Rattle.std.proofs.lemmas.Bool.Decides.{nat_tests}
use Rattle.c_lexer.specs.Bytes.{is_digit, is_word, opens_name, begins}
use Rattle.c_lexer.specs.Tables.{row_of, punctuators}
use Rattle.c_lexer.specs.Lexemes.{base_of, is_number, char_value, is_lexeme, kind_of, longest, token_at}
use Rattle.c_lexer.specs.Scan.{name_piece}
use Rattle.c_lexer.proofs.Longest.{longest_is, run_greatest, run_all}
use Rattle.c_lexer.proofs.Fronts.{no_row}

-- what no punctuator begins with
abbrev pub is_wordy : ℕ → Bool
is_wordy b = opens_name true b || is_digit b || b == 39

pub name_wordy : (annotated : Bool) (b : ℕ) → opens_name annotated b ≡ true → is_wordy b ≡ true
name_wordy true b h = rw h refl
name_wordy false b h = grind (arith, nat_tests)

pub digit_wordy : (b : ℕ) → is_digit b ≡ true → is_wordy b ≡ true
digit_wordy b h = grind (arith, nat_tests)

pub quote_wordy : (b : ℕ) → (b == 39) ≡ true → is_wordy b ≡ true
quote_wordy b h = grind (arith, nat_tests)

name_not_digit : (annotated : Bool) (b : ℕ) → opens_name annotated b ≡ true → is_digit b ≡ false
name_not_digit true b h = grind (arith, nat_tests)
name_not_digit false b h = grind (arith, nat_tests)

name_not_quote : (annotated : Bool) (b : ℕ) → opens_name annotated b ≡ true → (b == 39) ≡ false
name_not_quote true b h = grind (arith, nat_tests)
name_not_quote false b h = grind (arith, nat_tests)

pub digit_not_name : (annotated : Bool) (b : ℕ) → is_digit b ≡ true → opens_name annotated b ≡ false
digit_not_name true b h = grind (arith, nat_tests)
digit_not_name false b h = grind (arith, nat_tests)

pub digit_not_quote : (b : ℕ) → is_digit b ≡ true → (b == 39) ≡ false
digit_not_quote b h = grind (arith, nat_tests)

pub quote_not_name : (annotated : Bool) (b : ℕ) → (b == 39) ≡ true → opens_name annotated b ≡ false
quote_not_name true b h = grind (arith, nat_tests)
quote_not_name false b h = grind (arith, nat_tests)

pub quote_not_digit : (b : ℕ) → (b == 39) ≡ true → is_digit b ≡ false
quote_not_digit b h = grind (arith, nat_tests)

none_wordy : list_all (λ row. not (begins is_wordy row.0)) punctuators ≡ true
unfolding punctuators
none_wordy = refl

pub no_punctuator : (annotated : Bool) (b : ℕ) (bs : List ℕ) → is_wordy b ≡ true → row_of punctuators annotated (b ∷ bs) ≡ None
no_punctuator annotated b bs h = no_row is_wordy punctuators annotated (b ∷ bs) none_wordy h

base_none : (b : ℕ) (bs : List ℕ) (k : ℕ) → is_digit b ≡ false → is_some (base_of (take k (b ∷ bs))) ≡ false
base_none b bs zero h = refl
base_none b bs (suc k) h = let other : (b == 48) ≡ false = grind (arith, nat_tests) in rw (other, h) refl

-- a number begins with a digit, a character constant with a quote
pub no_number : (b : ℕ) (bs : List ℕ) → is_digit b ≡ false → is_number (b ∷ bs) ≡ false
unfolding is_number
no_number b bs h = rw (base_none b bs _ h) refl

pub no_char : (b : ℕ) (bs : List ℕ) → (b == 39) ≡ false → char_value (b ∷ bs) ≡ None
unfolding char_value
no_char b bs h = rw h refl

pub no_lexeme : (annotated : Bool) → is_lexeme annotated [] ≡ false
unfolding is_lexeme is_number char_value punctuators
no_lexeme true = refl
no_lexeme false = refl

no_more : (a : Bool) → (a || false || false || false) ≡ a
no_more true = refl
no_more false = refl

-- ---- names

name_lexeme : (annotated : Bool) (b : ℕ) (bs : List ℕ) → opens_name annotated b ≡ true → is_lexeme annotated (b ∷ bs) ≡ list_all is_word bs
unfolding is_lexeme
name_lexeme annotated b bs h =
    rw (no_punctuator annotated b bs (name_wordy annotated b h), no_number b bs (name_not_digit annotated b h), no_char b bs (name_not_quote annotated b h), h) (no_more (list_all is_word bs))

name_longest : (annotated : Bool) (b : ℕ) (bs : List ℕ) → opens_name annotated b ≡ true → longest (is_lexeme annotated) (b ∷ bs) (length (b ∷ bs)) ≡ suc (prefix_len is_word bs)
name_longest annotated b bs h =
    longest_is (is_lexeme annotated) (b ∷ bs) _ (run_greatest (is_lexeme annotated) is_word b bs (λ k le. name_lexeme annotated b (take k bs) h))

name_token : (annotated : Bool) (b : ℕ) (bs : List ℕ) → opens_name annotated b ≡ true → token_at annotated (b ∷ bs) ≡ name_piece annotated (b ∷ bs) (suc (prefix_len is_word bs))
unfolding token_at kind_of
name_token annotated b bs h = rw (name_longest annotated b bs h, h, run_all is_word bs) refl

pub name_at_front : (annotated : Bool) (bytes : List ℕ) → begins (opens_name annotated) bytes ≡ true → token_at annotated bytes ≡ name_piece annotated bytes (1 + prefix_len is_word (drop 1 bytes))
name_at_front annotated [] h = absurd (false≢true h)
name_at_front annotated (b ∷ bs) h = rw one-add (name_token annotated b bs h)

pub name_found : (annotated : Bool) (bytes : List ℕ) (n : ℕ) → begins (opens_name annotated) bytes ≡ true → n ≡ prefix_len is_word (drop 1 bytes) → name_piece annotated bytes (1 + n) ≡ token_at annotated bytes
name_found annotated bytes n h e = ap (λ n. name_piece annotated bytes (1 + n)) e ∙ sym (name_at_front annotated bytes h)
