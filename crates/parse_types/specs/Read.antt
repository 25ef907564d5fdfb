-- Readers of types (C11 6.7.2, 6.7.3, 6.7.6, 6.7.7), as functions on token lists.
use Rattle.std.specs.Prelude.{ℕ, zero, suc, ◌==◌, Bool, true, false, not, ◌&&◌, ◌||◌, if◌then◌else◌, List, [], ◌∷◌, length, Option, Some, None, find}
use Rattle.std.specs.Option.{option_map}
use Rattle.wp_base.specs.declared.kinds.Kind.{Kind}
use Rattle.c_syntax.specs.declared.token.Token.{Token}
use Rattle.c_syntax.specs.declared.token.TokenKind.{TokenKind}
use Rattle.c_syntax.specs.declared.token.TokenKind.TheVariants as k
use Rattle.c_syntax.specs.declared.token.Word.{Word}
use Rattle.c_syntax.specs.declared.token.Word.TheVariants as w
use Rattle.c_syntax.specs.declared.token.Punct.TheVariants as p
use Rattle.c_syntax.specs.Expr as e
use Rattle.c_grammar.specs.Tokens.{Names, is_type}
use Rattle.c_grammar.specs.Types.{is_kind_word, times, same_words, kind_of, const_if}
use Rattle.c_grammar.specs.Reading.{Reader, ◌>>=◌, punct_at, name_at}

-- ---- first tokens

-- a word of an integer kind
abbrev pub kind_word : TokenKind → Option Word
kind_word (k.Word v) = if is_kind_word v then Some v else None
kind_word _ = None

abbrev pub is_const : TokenKind → Bool
is_const (k.Word w.Const) = true
is_const _ = false

abbrev pub word_starts : Word → Bool
word_starts w.Const = true
word_starts w.Void = true
word_starts w.Struct = true
word_starts w.Enum = true
word_starts v = is_kind_word v

abbrev pub kind_starts : Names → TokenKind → Bool
kind_starts types (k.Word v) = word_starts v
kind_starts types (k.Name x) = is_type types x
kind_starts types _ = false

-- whether the first token begins a type
unfoldable pub starts_type : Names → List Token → Bool
starts_type types [] = false
starts_type types (t ∷ ts) = kind_starts types t.kind

abbrev pub is_star : TokenKind → Bool
is_star (k.Punct p.Star) = true
is_star _ = false

-- whether the first token is such a one
abbrev pub begins : (TokenKind → Bool) → List Token → Bool
begins test [] = false
begins test (t ∷ ts) = test t.kind

abbrev pub word_goes_on : Word → Bool
word_goes_on w.Const = true
word_goes_on v = is_kind_word v

-- a word of a kind, or `const`
abbrev pub goes_on : TokenKind → Bool
goes_on (k.Word v) = word_goes_on v
goes_on _ = false

-- whether a type may end here
unfoldable pub ends_type : List Token → Bool
ends_type ts = not (begins goes_on ts)

-- whether stars may end here, with `const` where it is allowed
unfoldable pub ends_stars : (consts : Bool) → List Token → Bool
ends_stars consts ts = not (begins is_star ts || (consts && begins is_const ts))

-- whether the name of a type may end here
unfoldable pub ends_type_name : List Token → Bool
ends_type_name ts = not (begins goes_on ts || begins is_star ts)

-- ---- types

-- whether a word stands in both as often
abbrev pub is_as_often : Word → (left right : List Word) → Bool
is_as_often word left right = times word left == times word right

abbrev pub kind_among : List (List Word × Kind) → List Word → Option Kind
kind_among rows ws = option_map (λ (row : List Word × Kind). row.1) (find (λ (row : List Word × Kind). same_words row.0 ws) rows)

abbrev pub words_by : Option Word → List Token → List Word × List Token → List Word × List Token
words_by None ts after = ([], ts)
words_by (Some v) ts after = (v ∷ after.0, after.1)

-- the words of a kind at the front, as far as they go
unfoldable pub words_at : List Token → List Word × List Token
words_at [] = ([], [])
words_at (t ∷ ts) = words_by (kind_word t.kind) (t ∷ ts) (words_at ts)

abbrev pub consts_by : Bool → List Token → Bool × List Token → Bool × List Token
consts_by false ts after = (false, ts)
consts_by true ts after = (true, after.1)

-- each `const` at the front, and whether there is one
unfoldable pub consts_at : List Token → Bool × List Token
consts_at [] = (false, [])
consts_at (t ∷ ts) = consts_by (is_const t.kind) (t ∷ ts) (consts_at ts)

-- the kind that the words spell
unfoldable pub kind_at : Reader Kind
kind_at ts = kind_of (words_at ts).0 >>= λ kind. Some (kind, (words_at ts).1)

-- the type that begins with a word, where `after` comes behind it
abbrev pub worded : Word → (ts after : List Token) → Option (e.CType × List Token)
worded w.Void ts after = Some (e.void, after)
worded w.Struct ts after = name_at after >>= λ x. Some (e.struct_of x.0.0, x.1)
worded w.Enum ts after = name_at after >>= λ x. Some (e.enum_of x.0.0, x.1)
worded _ ts after = kind_at ts >>= λ x. Some (e.kind x.0, x.1)

abbrev pub specified : Names → TokenKind → (ts after : List Token) → Option (e.CType × List Token)
specified types (k.Word v) ts after = worded v ts after
specified types (k.Name x) ts after = if is_type types x then Some (e.named x, after) else None
specified types _ ts after = None

-- a type without `const`
unfoldable pub specifier_at : Names → Reader e.CType
specifier_at types [] = None
specifier_at types (t ∷ ts) = specified types t.kind (t ∷ ts) ts

abbrev pub with_consts : (before : Bool) → e.CType → (after : Bool × List Token) → e.CType × List Token
with_consts before t after = (const_if (before || after.0) t, after.1)

-- {"const"} specifier {"const"}
unfoldable pub type_at : Names → Reader e.CType
type_at types ts = specifier_at types (consts_at ts).1 >>= λ t. Some (with_consts (consts_at ts).0 t.0 (consts_at t.1))

-- ---- stars

abbrev pub const_taken : (const : Bool) → Token → List Token → Bool × List Token
const_taken true t ts = (true, ts)
const_taken false t ts = (false, t ∷ ts)

abbrev pub const_by : Bool → List Token → Bool × List Token
const_by b [] = (false, [])
const_by b (t ∷ ts) = const_taken (b && is_const t.kind) t ts

-- a `const` where it is allowed, if one comes next
unfoldable pub const_at : (consts : Bool) → List Token → Bool × List Token
const_at consts ts = const_by consts ts

-- goes on behind a star, or ends
abbrev pub starred : (consts : Bool) → Option (ℕ × List Token) → e.CType → List Token → (e.CType → Reader e.CType) → Option (e.CType × List Token)
starred consts None t ts go = Some (t, ts)
starred consts (Some x) t ts go = go (const_if (const_at consts x.1).0 (e.pointer t)) (const_at consts x.1).1

-- more stars, at most so many
unfoldable pub more_stars : (consts : Bool) → (turns : ℕ) → e.CType → Reader e.CType
more_stars consts zero t ts = Some (t, ts)
more_stars consts (suc turns) t ts = starred consts (punct_at p.Star ts) t ts (more_stars consts turns)

-- {"*" ["const"]}, as many as there are, from the type that is pointed to; `const` where it is allowed
unfoldable pub stars_at : (consts : Bool) → e.CType → Reader e.CType
stars_at consts t ts = more_stars consts (length ts) t ts

-- type {"*"}
unfoldable pub type_name_at : Names → Reader e.CType
type_name_at types ts = type_at types ts >>= λ t. stars_at false t.0 t.1
