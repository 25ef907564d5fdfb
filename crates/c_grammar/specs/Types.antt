-- Types (C11 6.7.2, 6.7.3, 6.7.6) as relations between whole token lists and plain trees.
use Rattle.std.specs.Prelude.{◌≡◌, ℕ, suc, ◌==◌, Bool, true, false, ◌&&◌, ◌||◌, if◌then◌else◌, List, [], ◌∷◌, ◌++◌, Option, Some, find}
use Rattle.std.specs.Option.{option_map}
use denote.Enum.Bare.{sameb}
use Rattle.c_syntax.specs.contracts.token.Word.{the_type}
use Rattle.wp_base.specs.declared.kinds.Kind.{Kind}
use Rattle.wp_base.specs.declared.kinds.Kind.TheVariants as kind
use Rattle.c_syntax.specs.declared.token.Token.{Token}
use Rattle.c_syntax.specs.declared.token.Word.{Word}
use Rattle.c_syntax.specs.declared.token.Word.TheVariants as w
use Rattle.c_syntax.specs.declared.token.Punct.TheVariants as p
use Rattle.c_syntax.specs.Expr as e
use Rattle.c_grammar.specs.Tokens.{Names, is_type, word, name, punct}

-- ---- the words of the integer kinds

abbrev pub is_kind_word : Word → Bool
is_kind_word w.Bool = true
is_kind_word w.Char = true
is_kind_word w.Int = true
is_kind_word w.Long = true
is_kind_word w.Short = true
is_kind_word w.Signed = true
is_kind_word w.Unsigned = true
is_kind_word _ = false

-- how often a word stands among these
abbrev pub times : Word → List Word → ℕ
times x [] = 0
times x (y ∷ ys) = if sameb the_type x y then suc (times x ys) else times x ys

-- the same words, in any order
abbrev pub same_words : List Word → List Word → Bool
same_words xs ys =
    (times w.Bool xs == times w.Bool ys) && (times w.Char xs == times w.Char ys) && (times w.Int xs == times w.Int ys)
    && (times w.Long xs == times w.Long ys) && (times w.Short xs == times w.Short ys) && (times w.Signed xs == times w.Signed ys)
    && (times w.Unsigned xs == times w.Unsigned ys)

-- the spellings of each kind (C11 6.7.2p2)
unfoldable pub kind_rows : List (List Word × Kind)
kind_rows =
    (w.Bool ∷ [], kind.Bool) ∷ (w.Char ∷ [], kind.Char)
    ∷ (w.Signed ∷ w.Char ∷ [], kind.SChar) ∷ (w.Unsigned ∷ w.Char ∷ [], kind.UChar)
    ∷ (w.Short ∷ [], kind.Short) ∷ (w.Signed ∷ w.Short ∷ [], kind.Short) ∷ (w.Short ∷ w.Int ∷ [], kind.Short) ∷ (w.Signed ∷ w.Short ∷ w.Int ∷ [], kind.Short)
    ∷ (w.Unsigned ∷ w.Short ∷ [], kind.UShort) ∷ (w.Unsigned ∷ w.Short ∷ w.Int ∷ [], kind.UShort)
    ∷ (w.Int ∷ [], kind.Int) ∷ (w.Signed ∷ [], kind.Int) ∷ (w.Signed ∷ w.Int ∷ [], kind.Int)
    ∷ (w.Unsigned ∷ [], kind.UInt) ∷ (w.Unsigned ∷ w.Int ∷ [], kind.UInt)
    ∷ (w.Long ∷ [], kind.Long) ∷ (w.Signed ∷ w.Long ∷ [], kind.Long) ∷ (w.Long ∷ w.Int ∷ [], kind.Long) ∷ (w.Signed ∷ w.Long ∷ w.Int ∷ [], kind.Long)
    ∷ (w.Unsigned ∷ w.Long ∷ [], kind.ULong) ∷ (w.Unsigned ∷ w.Long ∷ w.Int ∷ [], kind.ULong)
    ∷ (w.Long ∷ w.Long ∷ [], kind.LLong) ∷ (w.Signed ∷ w.Long ∷ w.Long ∷ [], kind.LLong) ∷ (w.Long ∷ w.Long ∷ w.Int ∷ [], kind.LLong) ∷ (w.Signed ∷ w.Long ∷ w.Long ∷ w.Int ∷ [], kind.LLong)
    ∷ (w.Unsigned ∷ w.Long ∷ w.Long ∷ [], kind.ULLong) ∷ (w.Unsigned ∷ w.Long ∷ w.Long ∷ w.Int ∷ [], kind.ULLong) ∷ []

-- the kind that words spell, in any order, if they spell one
unfoldable pub kind_of : List Word → Option Kind
kind_of ws = option_map (λ (row : List Word × Kind). row.1) (find (λ (row : List Word × Kind). same_words row.0 ws) kind_rows)

pub data SpellsWords : List Token → List Word → Type 0 where
  none : SpellsWords [] []
  more : {line : ℕ} {v : Word} {rest : List Token} {ws : List Word} → is_kind_word v ≡ true → SpellsWords rest ws → SpellsWords (word v line ∷ rest) (v ∷ ws)

-- ---- types

-- {"const"}, and whether there is one
pub data SpellsConsts : List Token → Bool → Type 0 where
  none : SpellsConsts [] false
  more : {line : ℕ} {some : Bool} {rest : List Token} → SpellsConsts rest some → SpellsConsts (word w.Const line ∷ rest) true

-- words of a kind | "void" | "struct" NAME | "enum" NAME | a typedef name (C11 6.7.2)
pub data SpellsSpecifier (types : Names) : List Token → e.CType → Type 0 where
  kind_words : {all : List Token} {ws : List Word} {k : Kind} → SpellsWords all ws → kind_of ws ≡ Some k → SpellsSpecifier types all (e.kind k)
  void : {line : ℕ} → SpellsSpecifier types (word w.Void line ∷ []) e.void
  struct_of : {line line' : ℕ} {x : List ℕ} → SpellsSpecifier types (word w.Struct line ∷ name x line' ∷ []) (e.struct_of x)
  enum_of : {line line' : ℕ} {x : List ℕ} → SpellsSpecifier types (word w.Enum line ∷ name x line' ∷ []) (e.enum_of x)
  named : {line : ℕ} {x : List ℕ} → is_type types x ≡ true → SpellsSpecifier types (name x line ∷ []) (e.named x)

abbrev pub const_if : Bool → e.CType → e.CType
const_if true t = e.constant t
const_if false t = t

-- {"const"} specifier {"const"} (C11 6.7.3)
pub data SpellsType (types : Names) : List Token → e.CType → Type 0 where
  type : {before after : Bool} {first middle last all : List Token} {t t' : e.CType}
      → SpellsConsts first before → SpellsSpecifier types middle t → SpellsConsts last after
      → all ≡ first ++ (middle ++ last) → t' ≡ const_if (before || after) t → SpellsType types all t'

-- {"*" ["const"]}, from the type that is pointed to; `const` where it is allowed (C11 6.7.6.1)
pub data SpellsStars (consts : Bool) : List Token → (to type : e.CType) → Type 0 where
  none : {t : e.CType} → SpellsStars consts [] t t
  star : {line : ℕ} {rest : List Token} {t t' : e.CType} → SpellsStars consts rest (e.pointer t) t' → SpellsStars consts (punct p.Star line ∷ rest) t t'
  const_star : {line line' : ℕ} {rest : List Token} {t t' : e.CType} → consts ≡ true
      → SpellsStars consts rest (e.constant (e.pointer t)) t' → SpellsStars consts (punct p.Star line ∷ word w.Const line' ∷ rest) t t'

-- type {"*"} (C11 6.7.7)
pub data SpellsTypeName (types : Names) : List Token → e.CType → Type 0 where
  type_name : {first last all : List Token} {t t' : e.CType}
      → SpellsType types first t → SpellsStars false last t t' → all ≡ first ++ last → SpellsTypeName types all t'
