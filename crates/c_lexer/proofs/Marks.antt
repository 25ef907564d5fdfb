-- The punctuator at the front of a text, and that each token has bytes and lies within the text.
use Rattle.std.proofs.Common.{◌≡◌, ℕ, zero, suc, ◌+◌, ◌<◌, ◌≤◌, ◌==◌, Bool, true, false, List, [], ◌∷◌, length, take, Option, Some, None, is_some, Result, Ok, Err, refl, ap, ◌∙◌, arith, rules}
use Rattle.std.specs.Prelude.{find}
use Rattle.std.specs.Option.{option_map}
use Rattle.wp_base.specs.declared.answers.Rule.{Rule}
use Rattle.c_syntax.specs.declared.token.Punct.{Punct}
use Rattle.c_syntax.specs.declared.token.TokenKind.{TokenKind}
use Rattle.c_lexer.specs.declared.piece.Piece.{Piece}
use Rattle.c_lexer.specs.declared.piece.Piece.TheVariants as piece
use Rattle.c_lexer.specs.Bytes.{is_digit, opens_name, begins}
use Rattle.c_lexer.specs.Tables.{Row, meaning_of, punctuators}
use Rattle.c_lexer.specs.Lexemes.{punct_kind, is_lexeme, kind_of, longest, token_at, piece_of}
use Rattle.c_lexer.specs.Scan.{in_front, first_row, punct_piece}
use Rattle.c_lexer.proofs.Longest.{longest_is, longest_none, longest_greatest}
use Rattle.c_lexer.proofs.Fronts.{has_length, rows_at, Falls, IsFirst, first_found, front_within}
use Rattle.c_lexer.proofs.Names.{no_number, no_char, no_lexeme}
use Rattle.c_lexer.proofs.Quoted.{no_kind}

punctuators_fall : Falls 4 punctuators
unfolding punctuators
punctuators_fall = search rules

module _ (annotated : Bool) (b : ℕ) (bs : List ℕ) (name : opens_name annotated b ≡ false) (digit : is_digit b ≡ false) (quote : (b == 39) ≡ false) where
  mark_lexeme : (k : ℕ) → is_lexeme annotated (b ∷ take k bs) ≡ is_some (meaning_of punctuators annotated (b ∷ take k bs))
  unfolding is_lexeme
  mark_lexeme k = rw (name, no_number b (take k bs) digit, no_char b (take k bs) quote) refl

  mark_meaning : (k : ℕ) (row : Option (Row Punct)) → k ≤ length (b ∷ bs) → find (has_length (in_front annotated (b ∷ bs)) k) punctuators ≡ row → meaning_of punctuators annotated (take k (b ∷ bs)) ≡ option_map (λ row. row.1) row
  mark_meaning k row le e = ap (λ found. option_map (λ row. row.1) found) (rows_at punctuators annotated (b ∷ bs) k le ∙ e)

  not_lexeme : (k : ℕ) → k ≤ length (b ∷ bs) → find (has_length (in_front annotated (b ∷ bs)) k) punctuators ≡ None → is_lexeme annotated (take k (b ∷ bs)) ≡ false
  not_lexeme zero le e = no_lexeme annotated
  not_lexeme (suc k) le e = mark_lexeme k ∙ ap is_some (mark_meaning (suc k) None le e)

  mark_kind : (n : ℕ) (row : Row Punct) → 0 < n → meaning_of punctuators annotated (take n (b ∷ bs)) ≡ Some row.1 → kind_of annotated (take n (b ∷ bs)) ≡ punct_kind (Some row.1)
  unfolding kind_of
  mark_kind zero row lt e = absurd (omega arith)
  mark_kind (suc n) row lt e = rw (name, no_number b (take n bs) digit, no_char b (take n bs) quote) (ap punct_kind e)

  mark_passes : (n : ℕ) (row : Row Punct) → 0 < n → meaning_of punctuators annotated (take n (b ∷ bs)) ≡ Some row.1 → is_lexeme annotated (take n (b ∷ bs)) ≡ true
  mark_passes zero row lt e = absurd (omega arith)
  mark_passes (suc n) row lt e = mark_lexeme n ∙ ap is_some e

  mark_by : (found : Option (Row Punct)) → IsFirst (in_front annotated (b ∷ bs)) punctuators found → token_at annotated (b ∷ bs) ≡ punct_piece (option_map (λ row. (row.1, length row.0)) found)
  unfolding token_at
  mark_by None first = rw (longest_none (is_lexeme annotated) (b ∷ bs) (λ k le. not_lexeme k le (first k)), no_kind annotated) refl
  mark_by (Some row) first =
      let n = length row.0 in
      let le = front_within row annotated (b ∷ bs) first.0 in
      let meaning = mark_meaning n (Some row) le first.2 in
      let long : longest (is_lexeme annotated) (b ∷ bs) (length (b ∷ bs)) ≡ n =
      longest_is (is_lexeme annotated) (b ∷ bs) n (record { within = le; passes = λ lt. mark_passes n row lt meaning; no_longer = λ k lt le. not_lexeme k le (first.3 k lt) })
      in
      ap (λ n. piece_of n (kind_of annotated (take n (b ∷ bs)))) long ∙ ap (piece_of n) (mark_kind n row first.1 meaning)

pub mark_at_front : (annotated : Bool) (bytes : List ℕ) → 0 < length bytes → begins (opens_name annotated) bytes ≡ false → begins is_digit bytes ≡ false → begins (λ b. b == 39) bytes ≡ false → token_at annotated bytes ≡ punct_piece (first_row punctuators annotated bytes)
mark_at_front annotated [] lt name digit quote = absurd (omega arith)
mark_at_front annotated (b ∷ bs) lt name digit quote =
    mark_by annotated b bs name digit quote (find (in_front annotated (b ∷ bs)) punctuators) (first_found 4 punctuators (in_front annotated (b ∷ bs)) punctuators_fall)

-- ---- a piece has bytes, and lies within the text

abbrev pub Within : List ℕ → Piece → Type 0
Within bytes (piece.Skip n) = (0 < n) × (n ≤ length bytes)
Within bytes (piece.Token kind n) = (0 < n) × (n ≤ length bytes)
Within bytes (piece.Annot n close) = 3 + n + close ≤ length bytes
Within bytes (piece.Fault broken) = Unit {0}

piece_within : (annotated : Bool) (n : ℕ) (bytes : List ℕ) → n ≤ length bytes → Within bytes (piece_of n (kind_of annotated (take n bytes)))
piece_within annotated zero bytes le = rw no_kind tt
piece_within annotated (suc n) bytes le = by_kind (kind_of annotated (take (suc n) bytes))
  where
    by_kind : (kind : Result TokenKind Rule) → Within bytes (piece_of (suc n) kind)
    by_kind (Ok kind) = (omega arith, le)
    by_kind (Err broken) = tt

pub token_within : (annotated : Bool) (bytes : List ℕ) → Within bytes (token_at annotated bytes)
unfolding token_at
token_within annotated bytes = piece_within annotated _ bytes (longest_greatest (is_lexeme annotated) bytes (length bytes)).within
