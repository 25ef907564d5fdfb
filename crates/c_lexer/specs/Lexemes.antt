-- Names, numbers, character constants and punctuators: what a token is spelled as, and the token at the front of a text
-- by longest match (C11 6.4; in annotations ACSL 2.2).
use Rattle.std.specs.Prelude.{ℕ, zero, suc, ◌+◌, ◌-◌, ◌*◌, ◌^◌, ℤ, pos, ◌-ℤ◌, Bool, true, false, not, ◌&&◌, ◌||◌, if◌then◌else◌, ◌==◌, nat_le, List, [], ◌∷◌, length, take, drop, Option, Some, None, is_some, Result, Ok, Err}
use Rattle.std.specs.Option.{option_map}
use Rattle.std.specs.List.{list_all, prefix_len}
use Rattle.std.specs.Str.{bytes_eq}
use Rattle.wp_base.specs.declared.answers.Rule.{Rule}
use Rattle.wp_base.specs.declared.answers.Rule.TheVariants as rule
use Rattle.c_syntax.specs.declared.token.Base.{Base}
use Rattle.c_syntax.specs.declared.token.Base.TheVariants as base
use Rattle.c_syntax.specs.declared.token.Punct.{Punct}
use Rattle.c_syntax.specs.declared.token.Suffix.{Suffix}
use Rattle.c_syntax.specs.declared.token.Suffix.TheVariants as suffix
use Rattle.c_syntax.specs.declared.token.Word.{Word}
use Rattle.c_syntax.specs.declared.token.TokenKind.{TokenKind}
use Rattle.c_syntax.specs.declared.token.TokenKind.TheVariants as k
use Rattle.c_lexer.specs.declared.piece.Piece.{Piece}
use Rattle.c_lexer.specs.declared.piece.Piece.TheVariants as piece
use Rattle.c_lexer.specs.Bytes.{is_digit, is_octal, is_hex, is_word, opens_name, is_suffix_letter, is_x, digit_value, is_plain, letter_escape, begins}
use Rattle.c_lexer.specs.Tables.{meaning_of, punctuators, words, suffixes}

-- ---- names (C11 6.4.2.1)

abbrev pub is_name : (annotated : Bool) → List ℕ → Bool
is_name annotated [] = false
is_name annotated (b ∷ bytes) = opens_name annotated b && list_all is_word bytes

-- a word, or a name; a refused word is neither, nor is any other name with a backslash
abbrev pub word_kind : Option (Option Word) → List ℕ → Result TokenKind Rule
word_kind (Some (Some word)) bytes = Ok (k.Word word)
word_kind (Some None) bytes = Err rule.Word
word_kind None bytes = if begins (λ b. b == 92) bytes then Err rule.Word else Ok (k.Name bytes)

-- ---- numbers (C11 6.4.4.1)

-- what stands before the suffix, and the suffix: it begins with the first of its letters, which no digit is
abbrev pub constant_len : List ℕ → ℕ
constant_len bytes = prefix_len (λ b. not (is_suffix_letter b)) bytes

abbrev pub constant_in : List ℕ → List ℕ
constant_in bytes = take (constant_len bytes) bytes

abbrev pub suffix_in : List ℕ → List ℕ
suffix_in bytes = drop (constant_len bytes) bytes

abbrev pub is_run : (ℕ → Bool) → List ℕ → Bool
is_run test bytes = begins test bytes && list_all test bytes

-- behind a leading zero: nothing, `x` and hexadecimal digits, or octal digits
abbrev pub zero_base : List ℕ → Option Base
zero_base [] = Some base.Decimal
zero_base (b ∷ bytes) =
    if is_x b then (if is_run is_hex bytes then Some base.Hexadecimal else None)
    else (if list_all is_octal (b ∷ bytes) then Some base.Octal else None)

-- the base in which a constant is written, if it is one
abbrev pub base_of : List ℕ → Option Base
base_of [] = None
base_of (b ∷ bytes) = if b == 48 then zero_base bytes else (if list_all is_digit (b ∷ bytes) then Some base.Decimal else None)

abbrev pub suffix_of : List ℕ → Option Suffix
suffix_of [] = Some suffix.None
suffix_of (b ∷ bytes) = meaning_of suffixes false (b ∷ bytes)

unfoldable pub is_number : List ℕ → Bool
is_number bytes = is_some (base_of (constant_in bytes)) && is_some (suffix_of (suffix_in bytes))

abbrev pub radix : Base → ℕ
radix base.Decimal = 10
radix base.Octal = 8
radix base.Hexadecimal = 16

-- the digits of a constant: what is behind `0x`
abbrev pub digits_of : Base → List ℕ → List ℕ
digits_of base.Hexadecimal bytes = drop 2 bytes
digits_of _ bytes = bytes

abbrev pub value_from : (radix n : ℕ) → List ℕ → ℕ
value_from radix n [] = n
value_from radix n (b ∷ digits) = value_from radix (radix * n + digit_value b) digits

abbrev pub value : (radix : ℕ) → List ℕ → ℕ
value radix digits = value_from radix 0 digits

-- the greatest number
abbrev pub greatest : (annotated : Bool) → ℕ
greatest true = 2 ^ 127 - 1
greatest false = 2 ^ 64 - 1

abbrev pub number_value : (annotated : Bool) → Base → Suffix → ℕ → Result TokenKind Rule
number_value annotated base suffix n = if nat_le n (greatest annotated) then Ok (k.Number (pos n) base suffix) else Err rule.Lexical

abbrev pub number_kind : (annotated : Bool) → (constant : List ℕ) → Option Base → Option Suffix → Result TokenKind Rule
number_kind annotated constant (Some base) (Some suffix) = number_value annotated base suffix (value (radix base) (digits_of base constant))
number_kind annotated constant _ _ = Err rule.Lexical

-- ---- character constants (C11 6.4.4.4)

-- a character as it is written at the front: its value, and in how many bytes
abbrev pub octal_escape : List ℕ → Option (ℕ × ℕ)
octal_escape bytes = let n = prefix_len is_octal bytes in if nat_le n 3 then Some (value 8 (take n bytes), n + 1) else None

abbrev pub hex_escape : List ℕ → Option (ℕ × ℕ)
hex_escape bytes = let n = prefix_len is_hex bytes in if nat_le 1 n then Some (value 16 (take n bytes), n + 2) else None

-- behind the backslash
abbrev pub escape : List ℕ → Option (ℕ × ℕ)
escape [] = None
escape (b ∷ bytes) =
    if is_octal b then octal_escape (b ∷ bytes)
    else (if b == 120 then hex_escape bytes else option_map (λ v. (v, 2)) (letter_escape b))

abbrev pub written : List ℕ → Option (ℕ × ℕ)
written [] = None
written (b ∷ bytes) = if b == 92 then escape bytes else (if is_plain b then Some (b, 1) else None)

-- between two quotes
abbrev pub closed : List ℕ → Option (ℕ × ℕ) → Option ℕ
closed bytes None = None
closed bytes (Some c) = if bytes_eq (drop c.1 bytes) (39 ∷ []) then Some c.0 else None

unfoldable pub char_value : List ℕ → Option ℕ
char_value [] = None
char_value (b ∷ bytes) = if b == 39 then closed bytes (written bytes) else None

-- as a plain `char`, which is signed and has 8 bits
abbrev pub signed_char : ℕ → ℤ
signed_char n = if nat_le n 127 then pos n else pos n -ℤ pos 256

abbrev pub char_kind : Option ℕ → Result TokenKind Rule
char_kind None = Err rule.Lexical
char_kind (Some n) = if nat_le n 255 then Ok (k.Char (signed_char n)) else Err rule.Lexical

-- ---- punctuators (C11 6.4.6)

abbrev pub punct_kind : Option Punct → Result TokenKind Rule
punct_kind None = Err rule.Lexical
punct_kind (Some punct) = Ok (k.Punct punct)

-- ---- tokens

unfoldable pub is_lexeme : (annotated : Bool) → List ℕ → Bool
is_lexeme annotated bytes = is_name annotated bytes || is_number bytes || is_some (char_value bytes) || is_some (meaning_of punctuators annotated bytes)

-- the token that a lexeme is, or the rule that it breaks
unfoldable pub kind_of : (annotated : Bool) → List ℕ → Result TokenKind Rule
kind_of annotated bytes =
    if is_name annotated bytes then word_kind (meaning_of words annotated bytes) bytes
    else (if is_number bytes then number_kind annotated (constant_in bytes) (base_of (constant_in bytes)) (suffix_of (suffix_in bytes))
    else (if is_some (char_value bytes) then char_kind (char_value bytes)
    else punct_kind (meaning_of punctuators annotated bytes)))

-- the length of the longest front that passes, of those up to n bytes; 0 where none does
abbrev pub longest : (List ℕ → Bool) → List ℕ → (n : ℕ) → ℕ
longest test bytes zero = 0
longest test bytes (suc n) = if test (take (suc n) bytes) then suc n else longest test bytes n

abbrev pub piece_of : (n : ℕ) → Result TokenKind Rule → Piece
piece_of n (Ok kind) = piece.Token kind n
piece_of n (Err broken) = piece.Fault broken

-- the token at the front: the longest lexeme
unfoldable pub token_at : (annotated : Bool) → List ℕ → Piece
token_at annotated bytes = let n = longest (is_lexeme annotated) bytes (length bytes) in piece_of n (kind_of annotated (take n bytes))

-- a number may not be followed by a letter, a digit, `_`, or a single `.`
abbrev pub runs_on : List ℕ → Bool
runs_on [] = false
runs_on (b ∷ bytes) = is_word b || (b == 46 && not (begins (λ c. c == 46) bytes))

abbrev pub may_end : TokenKind → List ℕ → Bool
may_end (k.Number n base suffix) bytes = not (runs_on bytes)
may_end kind bytes = true
