-- Where a term may end, by the next token.
use Rattle.std.proofs.Common.{◌≡◌, ℕ, suc, ◌≤◌, Bool, true, false, not, ◌&&◌, List, [], ◌∷◌, Some, None, refl, arith}
use Rattle.c_syntax.specs.declared.token.Token.{Token}
use Rattle.c_syntax.specs.declared.token.TokenKind.{TokenKind}
use Rattle.c_syntax.specs.declared.token.TokenKind.TheVariants as k
use Rattle.c_syntax.specs.declared.token.Punct.{Punct}
use Rattle.c_syntax.specs.declared.token.Punct.TheVariants as p
use Rattle.c_syntax.specs.declared.expr.BinOp.{BinOp}
use Rattle.c_syntax.specs.declared.expr.BinOp.TheVariants as o
use Rattle.c_grammar.specs.Tokens.{token, punct}
use Rattle.c_grammar.specs.Operators.{binop_of, level, shift_level}
use Rattle.c_grammar.specs.Reading.{punct_at}
use Rattle.c_grammar.proofs.Levels.{Ends, ends_fewer}
use Rattle.parse_terms.specs.Read as r
use Rattle.parse_terms.specs.Next as n
use Rattle.parse_terms.proofs.CompleteParts.{Stops, Follows, EndsList, looser_operator}

-- what ends a term, and no `+`
abbrev EndsTerm : List Token → Type 0
EndsTerm ts = Follows ts × (punct_at p.Plus ts ≡ None)

term_end : (kind : TokenKind) (line : ℕ) (ts : List Token) → n.ends_term_by kind ≡ true → EndsTerm (token kind line ∷ ts)
unfolding r.selector_at r.operator
term_end (k.Punct p.Question) line ts h = absurd cc
term_end (k.Punct p.OpenParen) line ts h = absurd cc
term_end (k.Punct p.OpenBracket) line ts h = absurd cc
term_end (k.Punct p.Dot) line ts h = absurd cc
term_end (k.Punct p.Arrow) line ts h = absurd cc
term_end (k.Punct p.Star) line ts h = absurd cc
term_end (k.Punct p.Slash) line ts h = absurd cc
term_end (k.Punct p.Percent) line ts h = absurd cc
term_end (k.Punct p.Plus) line ts h = absurd cc
term_end (k.Punct p.Minus) line ts h = absurd cc
term_end (k.Punct p.Shl) line ts h = absurd cc
term_end (k.Punct p.Shr) line ts h = absurd cc
term_end (k.Punct p.Less) line ts h = absurd cc
term_end (k.Punct p.AtMost) line ts h = absurd cc
term_end (k.Punct p.Greater) line ts h = absurd cc
term_end (k.Punct p.AtLeast) line ts h = absurd cc
term_end (k.Punct p.Equal) line ts h = absurd cc
term_end (k.Punct p.NotEqual) line ts h = absurd cc
term_end (k.Punct p.Amp) line ts h = absurd cc
term_end (k.Punct p.Caret) line ts h = absurd cc
term_end (k.Punct p.Bar) line ts h = absurd cc
term_end (k.Punct p.And) line ts h = absurd cc
term_end (k.Punct p.Or) line ts h = absurd cc
term_end (k.Punct _) line ts h = (((refl, refl), (λ m le. refl), refl), refl)
term_end _ line ts h = (((refl, refl), (λ m le. refl), refl), refl)

pub term_ends : (ts : List Token) → n.ends_term ts ≡ true → Follows ts × (punct_at p.Plus ts ≡ None)
unfolding n.ends_term r.selector_at r.operator
term_ends [] h = (((refl, refl), (λ m le. refl), refl), refl)
term_ends (t ∷ ts) h = term_end t.kind t.line ts h

no_comma : (kind : TokenKind) (line : ℕ) (ts : List Token) → not (n.is_comma kind) ≡ true → punct_at p.Comma (token kind line ∷ ts) ≡ None
no_comma (k.Punct p.Comma) line ts h = absurd cc
no_comma (k.Punct _) line ts h = refl
no_comma _ line ts h = refl

no_comma_next : (ts : List Token) → not (n.comma_next ts) ≡ true → punct_at p.Comma ts ≡ None
no_comma_next [] h = refl
no_comma_next (t ∷ ts) h = no_comma t.kind t.line ts h

both_true : (a b : Bool) → a && b ≡ true → (a ≡ true) × (b ≡ true)
both_true true b h = (refl, h)
both_true false b h = absurd cc

pub list_ends : (ts : List Token) → n.ends_terms ts ≡ true → EndsList ts
unfolding n.ends_terms
list_ends ts h =
    let x = both_true (n.ends_term ts) (not (n.comma_next ts)) h in
    ((term_ends ts x.0).0, no_comma_next ts x.1)

-- ---- between comparisons

abbrev pub EndsChainTerm : List Token → Type 0
EndsChainTerm ts = Stops ts × Ends r.operator shift_level ts

-- an operator looser than the shifts
loose : (m : ℕ) (q : Punct) (op : BinOp) (line : ℕ) (ts : List Token) → binop_of q ≡ Some op → level op ≡ suc m → shift_level ≤ m → Ends r.operator shift_level (punct q line ∷ ts)
loose m q op line ts which at le = ends_fewer r.operator shift_level m (punct q line ∷ ts) le (looser_operator m q op line ts which at)

chain_end : (kind : TokenKind) (line : ℕ) (ts : List Token) → n.ends_chain_term_by kind ≡ true → EndsChainTerm (token kind line ∷ ts)
unfolding r.selector_at r.operator
chain_end (k.Punct p.OpenParen) line ts h = absurd cc
chain_end (k.Punct p.OpenBracket) line ts h = absurd cc
chain_end (k.Punct p.Dot) line ts h = absurd cc
chain_end (k.Punct p.Arrow) line ts h = absurd cc
chain_end (k.Punct p.Star) line ts h = absurd cc
chain_end (k.Punct p.Slash) line ts h = absurd cc
chain_end (k.Punct p.Percent) line ts h = absurd cc
chain_end (k.Punct p.Plus) line ts h = absurd cc
chain_end (k.Punct p.Minus) line ts h = absurd cc
chain_end (k.Punct p.Shl) line ts h = absurd cc
chain_end (k.Punct p.Shr) line ts h = absurd cc
chain_end (k.Punct p.Less) line ts h = ((refl, refl), loose 3 p.Less o.Less line ts refl refl (omega arith))
chain_end (k.Punct p.AtMost) line ts h = ((refl, refl), loose 3 p.AtMost o.AtMost line ts refl refl (omega arith))
chain_end (k.Punct p.Greater) line ts h = ((refl, refl), loose 3 p.Greater o.Greater line ts refl refl (omega arith))
chain_end (k.Punct p.AtLeast) line ts h = ((refl, refl), loose 3 p.AtLeast o.AtLeast line ts refl refl (omega arith))
chain_end (k.Punct p.Equal) line ts h = ((refl, refl), loose 4 p.Equal o.Equal line ts refl refl (omega arith))
chain_end (k.Punct p.NotEqual) line ts h = ((refl, refl), loose 4 p.NotEqual o.NotEqual line ts refl refl (omega arith))
chain_end (k.Punct p.Amp) line ts h = ((refl, refl), loose 5 p.Amp o.BitAnd line ts refl refl (omega arith))
chain_end (k.Punct p.Caret) line ts h = ((refl, refl), loose 6 p.Caret o.BitXor line ts refl refl (omega arith))
chain_end (k.Punct p.Bar) line ts h = ((refl, refl), loose 7 p.Bar o.BitOr line ts refl refl (omega arith))
chain_end (k.Punct p.And) line ts h = ((refl, refl), loose 8 p.And o.And line ts refl refl (omega arith))
chain_end (k.Punct p.Or) line ts h = ((refl, refl), loose 9 p.Or o.Or line ts refl refl (omega arith))
chain_end (k.Punct _) line ts h = ((refl, refl), (λ m le. refl))
chain_end _ line ts h = ((refl, refl), (λ m le. refl))

pub chain_ends : (ts : List Token) → n.ends_chain_term ts ≡ true → Stops ts × Ends r.operator shift_level ts
unfolding n.ends_chain_term r.selector_at r.operator
chain_ends [] h = ((refl, refl), (λ m le. refl))
chain_ends (t ∷ ts) h = chain_end t.kind t.line ts h
