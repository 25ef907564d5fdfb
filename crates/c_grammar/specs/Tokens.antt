-- Tokens as the grammar names them, each with its line.
use Rattle.std.specs.Prelude.{ℕ, ℤ, Bool, List, [], ◌∷◌}
use Rattle.std.specs.List.{list_any}
use Rattle.std.specs.Str.{bytes_eq}
use Rattle.c_syntax.specs.declared.token.Token.{Token}
use Rattle.c_syntax.specs.declared.token.TokenKind.{TokenKind}
use Rattle.c_syntax.specs.declared.token.TokenKind.TheVariants as k
use Rattle.c_syntax.specs.declared.token.Punct.{Punct}
use Rattle.c_syntax.specs.declared.token.Word.{Word}
use Rattle.c_syntax.specs.declared.token.Base.{Base}
use Rattle.c_syntax.specs.declared.token.Suffix.{Suffix}

abbrev pub token : TokenKind → (line : ℕ) → Token
token kind line = record { kind = kind; line = line }

abbrev pub punct : Punct → (line : ℕ) → Token
punct p line = token (k.Punct p) line

abbrev pub word : Word → (line : ℕ) → Token
word w line = token (k.Word w) line

abbrev pub name : List ℕ → (line : ℕ) → Token
name x line = token (k.Name x) line

abbrev pub number : ℤ → Base → Suffix → (line : ℕ) → Token
number value base suffix line = token (k.Number value base suffix) line

abbrev pub char : ℤ → (line : ℕ) → Token
char value line = token (k.Char value) line

-- what opens an annotation, and what ends it
abbrev pub annot_open : (line : ℕ) → Token
annot_open line = token k.AnnotOpen line

abbrev pub annot_close : (line : ℕ) → Token
annot_close line = token k.AnnotClose line

-- the line of the first token
abbrev pub first_line : List Token → ℕ
first_line [] = 0
first_line (t ∷ ts) = t.line

-- The names that earlier typedefs declared (C11 6.7.8). They hold for the whole file.
abbrev pub Names : Type 0
Names = List (List ℕ)

abbrev pub is_type : Names → List ℕ → Bool
is_type types x = list_any (λ t. bytes_eq t x) types
