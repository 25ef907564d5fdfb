-- What tells where a term ends, and where a predicate begins with one (ACSL 2.2).
use Rattle.std.specs.Prelude.{ℕ, Bool, true, false, not, ◌&&◌, ◌||◌, List, [], ◌∷◌, Option, Some, None}
use Rattle.c_syntax.specs.declared.token.Token.{Token}
use Rattle.c_syntax.specs.declared.token.TokenKind.{TokenKind}
use Rattle.c_syntax.specs.declared.token.TokenKind.TheVariants as k
use Rattle.c_syntax.specs.declared.token.Punct.{Punct}
use Rattle.c_syntax.specs.declared.token.Punct.TheVariants as p
use Rattle.c_syntax.specs.declared.token.Word.{Word}
use Rattle.c_syntax.specs.declared.token.Word.TheVariants as w
use Rattle.c_syntax.specs.declared.expr.BinOp.{BinOp}
use Rattle.c_syntax.specs.declared.expr.BinOp.TheVariants as o
use Rattle.c_grammar.specs.Tokens.{Names}
use Rattle.c_grammar.specs.Operators.{binop_of, comparison_of}
use Rattle.c_grammar.specs.Reading.{punct_at, past}
use Rattle.parse_types.specs.Read.{starts_type}

abbrev pub is_none : {X : Type 0} → Option X → Bool
is_none None = true
is_none (Some x) = false

-- whether the punctuator goes on with the operand before it
abbrev pub extends : Punct → Bool
extends p.OpenParen = true
extends p.OpenBracket = true
extends p.Dot = true
extends p.Arrow = true
extends _ = false

abbrev pub ends_term_by : TokenKind → Bool
ends_term_by (k.Punct p.Question) = false
ends_term_by (k.Punct q) = not (extends q) && is_none (binop_of q)
ends_term_by _ = true

-- whether a term may end here
unfoldable pub ends_term : List Token → Bool
ends_term [] = true
ends_term (t ∷ ts) = ends_term_by t.kind

-- the operators up to the shifts
abbrev pub is_tight : BinOp → Bool
is_tight o.Mul = true
is_tight o.Div = true
is_tight o.Rem = true
is_tight o.Add = true
is_tight o.Sub = true
is_tight o.Shl = true
is_tight o.Shr = true
is_tight _ = false

abbrev pub has_tight : Option BinOp → Bool
has_tight None = false
has_tight (Some op) = is_tight op

abbrev pub ends_chain_term_by : TokenKind → Bool
ends_chain_term_by (k.Punct q) = not (extends q) && not (has_tight (binop_of q))
ends_chain_term_by _ = true

-- whether what stands between comparisons may end here
unfoldable pub ends_chain_term : List Token → Bool
ends_chain_term [] = true
ends_chain_term (t ∷ ts) = ends_chain_term_by t.kind

abbrev pub continues_punct : Punct → Bool
continues_punct p.OpenBracket = true
continues_punct p.Dot = true
continues_punct p.Arrow = true
continues_punct q = has_tight (binop_of q) || not (is_none (comparison_of q))

abbrev pub continues_by : TokenKind → Bool
continues_by (k.Punct q) = continues_punct q
continues_by _ = false

-- whether a comparison goes on here: behind what begins one comes a comparison, an operator up to the shifts, or what selects a part
unfoldable pub continues : List Token → Bool
continues [] = false
continues (t ∷ ts) = continues_by t.kind

abbrev pub continues_behind : Option (Bool × List Token) → Bool
continues_behind None = false
continues_behind (Some x) = continues x.1

-- the same behind parentheses that open here
abbrev pub continues_after : Option (ℕ × List Token) → Bool
continues_after None = false
continues_after (Some opened) = continues_behind (past 0 false opened.1)

-- behind a name, or behind its arguments
abbrev pub name_continues : Option (ℕ × List Token) → List Token → Bool
name_continues None ts = continues ts
name_continues (Some opened) ts = continues_behind (past 0 false opened.1)

abbrev pub word_begins : Word → List Token → Bool
word_begins w.Result ts = true
word_begins w.Null ts = true
word_begins w.At ts = true
word_begins w.Old ts = continues_after (punct_at p.OpenParen ts)
word_begins _ ts = false

abbrev pub punct_begins : Names → Punct → List Token → Bool
punct_begins types p.Amp ts = true
punct_begins types p.Star ts = true
punct_begins types p.Plus ts = true
punct_begins types p.Minus ts = true
punct_begins types p.Tilde ts = true
punct_begins types p.OpenParen ts = starts_type types ts || continues_behind (past 0 false ts)
punct_begins types _ ts = false

abbrev pub begins_chain_by : Names → TokenKind → List Token → Bool
begins_chain_by types (k.Number value base suffix) ts = true
begins_chain_by types (k.Char value) ts = true
begins_chain_by types (k.Name x) ts = name_continues (punct_at p.OpenParen ts) ts
begins_chain_by types (k.Word v) ts = word_begins v ts
begins_chain_by types (k.Punct q) ts = punct_begins types q ts
begins_chain_by types _ ts = false

-- whether a predicate that begins here begins with a chain of comparisons
unfoldable pub begins_chain : Names → List Token → Bool
begins_chain types [] = false
begins_chain types (t ∷ ts) = begins_chain_by types t.kind ts

abbrev pub is_comma : TokenKind → Bool
is_comma (k.Punct p.Comma) = true
is_comma _ = false

abbrev pub comma_next : List Token → Bool
comma_next [] = false
comma_next (t ∷ ts) = is_comma t.kind

-- whether a list of terms may end here
unfoldable pub ends_terms : List Token → Bool
ends_terms ts = ends_term ts && not (comma_next ts)
