-- The tables of tokens: punctuators, words, suffixes of numbers.
use Rattle.std.specs.Prelude.{ℕ, Bool, true, ◌&&◌, List, [], ◌∷◌, find, codes, Option, Some, None}
use Rattle.std.specs.Option.{option_map}
use Rattle.std.specs.Str.{bytes_eq}
use Rattle.c_syntax.specs.declared.token.Punct.{Punct}
use Rattle.c_syntax.specs.declared.token.Punct.TheVariants as p
use Rattle.c_syntax.specs.declared.token.Word.{Word}
use Rattle.c_syntax.specs.declared.token.Word.TheVariants as w
use Rattle.c_syntax.specs.declared.token.Suffix.{Suffix}
use Rattle.c_syntax.specs.declared.token.Suffix.TheVariants as x
use Rattle.c_lexer.specs.declared.tables.Scope.{Scope}
use Rattle.c_lexer.specs.declared.tables.Scope.TheVariants as s

-- a text, what it stands for, and where
abbrev pub Row : Type 0 → Type 0
Row X = List ℕ × X × Scope

abbrev pub is_in : (annotated : Bool) → Scope → Bool
is_in annotated s.Anywhere = true
is_in annotated s.Annotation = annotated

-- the row of the table with this text
abbrev pub row_of : {X : Type 0} → List (Row X) → (annotated : Bool) → List ℕ → Option (Row X)
row_of rows annotated bytes = find (λ row. is_in annotated row.2 && bytes_eq row.0 bytes) rows

-- what the text stands for
abbrev pub meaning_of : {X : Type 0} → List (Row X) → (annotated : Bool) → List ℕ → Option X
meaning_of rows annotated bytes = option_map (λ row. row.1) (row_of rows annotated bytes)

-- The punctuators (C11 6.4.6), with those of annotations alone (ACSL 2.2).
unfoldable pub punctuators : List (Row Punct)
punctuators =
    (codes "<==>", p.Iff, s.Annotation) ∷ (codes "==>", p.Implies, s.Annotation) ∷ (codes "...", p.Ellipsis, s.Anywhere) ∷ (codes "<<=", p.ShlAssign, s.Anywhere)
    ∷ (codes ">>=", p.ShrAssign, s.Anywhere) ∷ (codes "->", p.Arrow, s.Anywhere) ∷ (codes "++", p.Increment, s.Anywhere) ∷ (codes "--", p.Decrement, s.Anywhere)
    ∷ (codes "<<", p.Shl, s.Anywhere) ∷ (codes ">>", p.Shr, s.Anywhere) ∷ (codes "<=", p.AtMost, s.Anywhere) ∷ (codes ">=", p.AtLeast, s.Anywhere)
    ∷ (codes "==", p.Equal, s.Anywhere) ∷ (codes "!=", p.NotEqual, s.Anywhere) ∷ (codes "&&", p.And, s.Anywhere) ∷ (codes "||", p.Or, s.Anywhere)
    ∷ (codes "^^", p.Xor, s.Annotation) ∷ (codes "*=", p.MulAssign, s.Anywhere) ∷ (codes "/=", p.DivAssign, s.Anywhere) ∷ (codes "%=", p.RemAssign, s.Anywhere)
    ∷ (codes "+=", p.AddAssign, s.Anywhere) ∷ (codes "-=", p.SubAssign, s.Anywhere) ∷ (codes "&=", p.BitAndAssign, s.Anywhere) ∷ (codes "^=", p.BitXorAssign, s.Anywhere)
    ∷ (codes "|=", p.BitOrAssign, s.Anywhere) ∷ (codes "..", p.Range, s.Annotation) ∷ (codes "[", p.OpenBracket, s.Anywhere) ∷ (codes "]", p.CloseBracket, s.Anywhere)
    ∷ (codes "(", p.OpenParen, s.Anywhere) ∷ (codes ")", p.CloseParen, s.Anywhere) ∷ (codes "{", p.OpenBrace, s.Anywhere) ∷ (codes "}", p.CloseBrace, s.Anywhere)
    ∷ (codes ".", p.Dot, s.Anywhere) ∷ (codes "&", p.Amp, s.Anywhere) ∷ (codes "*", p.Star, s.Anywhere) ∷ (codes "+", p.Plus, s.Anywhere)
    ∷ (codes "-", p.Minus, s.Anywhere) ∷ (codes "~", p.Tilde, s.Anywhere) ∷ (codes "!", p.Not, s.Anywhere) ∷ (codes "/", p.Slash, s.Anywhere)
    ∷ (codes "%", p.Percent, s.Anywhere) ∷ (codes "<", p.Less, s.Anywhere) ∷ (codes ">", p.Greater, s.Anywhere) ∷ (codes "^", p.Caret, s.Anywhere)
    ∷ (codes "|", p.Bar, s.Anywhere) ∷ (codes "?", p.Question, s.Anywhere) ∷ (codes ":", p.Colon, s.Anywhere) ∷ (codes ";", p.Semicolon, s.Anywhere)
    ∷ (codes "=", p.Assign, s.Anywhere) ∷ (codes ",", p.Comma, s.Anywhere) ∷ []

-- The words (C11 6.4.1) and the names with a backslash of annotations (ACSL 2.2), each with its token; a word without token is refused.
unfoldable pub words : List (Row (Option Word))
words =
    (codes "_Bool", Some w.Bool, s.Anywhere) ∷ (codes "break", Some w.Break, s.Anywhere) ∷ (codes "case", Some w.Case, s.Anywhere) ∷ (codes "char", Some w.Char, s.Anywhere)
    ∷ (codes "const", Some w.Const, s.Anywhere) ∷ (codes "continue", Some w.Continue, s.Anywhere) ∷ (codes "default", Some w.Default, s.Anywhere) ∷ (codes "do", Some w.Do, s.Anywhere)
    ∷ (codes "else", Some w.Else, s.Anywhere) ∷ (codes "enum", Some w.Enum, s.Anywhere) ∷ (codes "extern", Some w.Extern, s.Anywhere) ∷ (codes "for", Some w.For, s.Anywhere)
    ∷ (codes "if", Some w.If, s.Anywhere) ∷ (codes "int", Some w.Int, s.Anywhere) ∷ (codes "long", Some w.Long, s.Anywhere) ∷ (codes "return", Some w.Return, s.Anywhere)
    ∷ (codes "short", Some w.Short, s.Anywhere) ∷ (codes "signed", Some w.Signed, s.Anywhere) ∷ (codes "sizeof", Some w.SizeOf, s.Anywhere) ∷ (codes "static", Some w.Static, s.Anywhere)
    ∷ (codes "struct", Some w.Struct, s.Anywhere) ∷ (codes "switch", Some w.Switch, s.Anywhere) ∷ (codes "typedef", Some w.Typedef, s.Anywhere) ∷ (codes "unsigned", Some w.Unsigned, s.Anywhere)
    ∷ (codes "void", Some w.Void, s.Anywhere) ∷ (codes "while", Some w.While, s.Anywhere) ∷ (codes "\\true", Some w.True, s.Annotation) ∷ (codes "\\false", Some w.False, s.Annotation)
    ∷ (codes "\\result", Some w.Result, s.Annotation) ∷ (codes "\\old", Some w.Old, s.Annotation) ∷ (codes "\\at", Some w.At, s.Annotation) ∷ (codes "\\null", Some w.Null, s.Annotation)
    ∷ (codes "\\nothing", Some w.Nothing, s.Annotation) ∷ (codes "\\forall", Some w.Forall, s.Annotation) ∷ (codes "\\exists", Some w.Exists, s.Annotation) ∷ (codes "\\let", Some w.Let, s.Annotation)
    ∷ (codes "\\valid", Some w.Valid, s.Annotation) ∷ (codes "\\valid_read", Some w.ValidRead, s.Annotation) ∷ (codes "\\separated", Some w.Separated, s.Annotation) ∷ (codes "\\from", Some w.From, s.Annotation)
    ∷ (codes "auto", None, s.Anywhere) ∷ (codes "register", None, s.Anywhere) ∷ (codes "inline", None, s.Anywhere) ∷ (codes "float", None, s.Anywhere)
    ∷ (codes "double", None, s.Anywhere) ∷ (codes "union", None, s.Anywhere) ∷ (codes "goto", None, s.Anywhere) ∷ (codes "volatile", None, s.Anywhere)
    ∷ (codes "restrict", None, s.Anywhere) ∷ (codes "asm", None, s.Anywhere) ∷ (codes "_Alignas", None, s.Anywhere) ∷ (codes "_Alignof", None, s.Anywhere)
    ∷ (codes "_Atomic", None, s.Anywhere) ∷ (codes "_Complex", None, s.Anywhere) ∷ (codes "_Generic", None, s.Anywhere) ∷ (codes "_Imaginary", None, s.Anywhere)
    ∷ (codes "_Noreturn", None, s.Anywhere) ∷ (codes "_Static_assert", None, s.Anywhere) ∷ (codes "_Thread_local", None, s.Anywhere) ∷ (codes "real", None, s.Annotation)
    ∷ (codes "boolean", None, s.Annotation) ∷ []

-- The suffixes of numbers (C11 6.4.4.1): `u` and `l` or `ll`, each in small letters or in capitals, in either order.
unfoldable pub suffixes : List (Row Suffix)
suffixes =
    (codes "ull", x.ULL, s.Anywhere) ∷ (codes "llu", x.ULL, s.Anywhere) ∷ (codes "uLL", x.ULL, s.Anywhere) ∷ (codes "LLu", x.ULL, s.Anywhere)
    ∷ (codes "Ull", x.ULL, s.Anywhere) ∷ (codes "llU", x.ULL, s.Anywhere) ∷ (codes "ULL", x.ULL, s.Anywhere) ∷ (codes "LLU", x.ULL, s.Anywhere)
    ∷ (codes "ul", x.UL, s.Anywhere) ∷ (codes "lu", x.UL, s.Anywhere) ∷ (codes "uL", x.UL, s.Anywhere) ∷ (codes "Lu", x.UL, s.Anywhere)
    ∷ (codes "Ul", x.UL, s.Anywhere) ∷ (codes "lU", x.UL, s.Anywhere) ∷ (codes "UL", x.UL, s.Anywhere) ∷ (codes "LU", x.UL, s.Anywhere)
    ∷ (codes "ll", x.LL, s.Anywhere) ∷ (codes "LL", x.LL, s.Anywhere) ∷ (codes "l", x.L, s.Anywhere) ∷ (codes "L", x.L, s.Anywhere)
    ∷ (codes "u", x.U, s.Anywhere) ∷ (codes "U", x.U, s.Anywhere) ∷ []
