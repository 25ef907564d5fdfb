-- What the lexer's parts give.
use Rattle.std.specs.Prelude.{ℕ, ◌+◌, Bool, false, ◌&&◌, if◌then◌else◌, ◌==◌, nat_le, List, length, take, drop, find, Option, Some, None}
use Rattle.std.specs.Option.{option_map}
use Rattle.std.specs.List.{prefix_len}
use Rattle.std.specs.Str.{bytes_eq}
use Rattle.wp_base.specs.declared.answers.Rule.TheVariants as rule
use Rattle.c_syntax.specs.declared.token.Base.{Base}
use Rattle.c_syntax.specs.declared.token.Base.TheVariants as base
use Rattle.c_syntax.specs.declared.token.Suffix.{Suffix}
use Rattle.c_syntax.specs.declared.token.Suffix.TheVariants as suffix
use Rattle.c_syntax.specs.declared.token.Punct.{Punct}
use Rattle.c_syntax.specs.declared.token.TokenKind.TheVariants as k
use Rattle.c_lexer.specs.declared.piece.Piece.{Piece}
use Rattle.c_lexer.specs.declared.piece.Piece.TheVariants as piece
use Rattle.c_lexer.specs.Bytes.{is_digit, is_octal, is_hex, is_x, begins}
use Rattle.c_lexer.specs.Tables.{Row, is_in, meaning_of, words, suffixes}
use Rattle.c_lexer.specs.Lexemes.{word_kind, radix, digits_of, value, number_value, char_kind, piece_of}

-- the row stands at the front
abbrev pub in_front : {X : Type 0} → (annotated : Bool) → List ℕ → Row X → Bool
in_front annotated bytes row = is_in annotated row.2 && bytes_eq row.0 (take (length row.0) bytes)

-- the first row at the front: its meaning, and its length
abbrev pub first_row : {X : Type 0} → List (Row X) → (annotated : Bool) → List ℕ → Option (X × ℕ)
first_row rows annotated bytes = option_map (λ row. (row.1, length row.0)) (find (in_front annotated bytes) rows)

-- a name with this many bytes
abbrev pub name_piece : (annotated : Bool) → List ℕ → (n : ℕ) → Piece
name_piece annotated bytes n = piece_of n (word_kind (meaning_of words annotated (take n bytes)) (take n bytes))

-- the constant at the front, from its first byte, a digit: its base, and its length
abbrev pub constant_front : List ℕ → Base × ℕ
constant_front bytes =
    if begins (λ b. b == 48) bytes then
    (if begins is_x (drop 1 bytes) && begins is_hex (drop 2 bytes) then (base.Hexadecimal, prefix_len is_hex (drop 2 bytes) + 2)
    else (if nat_le (prefix_len is_octal bytes) 1 then (base.Decimal, prefix_len is_octal bytes) else (base.Octal, prefix_len is_octal bytes)))
    else (base.Decimal, prefix_len is_digit bytes)

-- the suffix at the front, and its length
abbrev pub suffix_found : Option (Suffix × ℕ) → Suffix × ℕ
suffix_found None = (suffix.None, 0)
suffix_found (Some found) = found

abbrev pub suffix_front : List ℕ → Suffix × ℕ
suffix_front bytes = suffix_found (first_row suffixes false bytes)

-- a number with this constant and this suffix
abbrev pub number_piece : (annotated : Bool) → List ℕ → Base × ℕ → Suffix × ℕ → Piece
number_piece annotated bytes constant suffix =
    piece_of (constant.1 + suffix.1) (number_value annotated constant.0 suffix.0 (value (radix constant.0) (digits_of constant.0 (take constant.1 bytes))))

-- the same from its value, where that fits 128 bits
abbrev pub number_by : (annotated : Bool) → Base → Suffix → Option ℕ → (n : ℕ) → Piece
number_by annotated base suffix None n = piece.Fault rule.Lexical
number_by annotated base suffix (Some value) n = piece_of n (number_value annotated base suffix value)

-- if its value is that of a byte
abbrev pub small : Option (ℕ × ℕ) → Option (ℕ × ℕ)
small None = None
small (Some c) = if nat_le c.0 255 then Some c else None

-- a character constant, from what is written behind its quote
abbrev pub char_piece : (behind : List ℕ) → Option (ℕ × ℕ) → Piece
char_piece behind None = piece.Fault rule.Lexical
char_piece behind (Some c) = if begins (λ b. b == 39) (drop c.1 behind) then piece_of (c.1 + 2) (char_kind (Some c.0)) else piece.Fault rule.Lexical

abbrev pub punct_piece : Option (Punct × ℕ) → Piece
punct_piece None = piece.Fault rule.Lexical
punct_piece (Some found) = piece.Token (k.Punct found.0) found.1
