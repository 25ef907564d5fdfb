-- What a chain of comparisons begins with tells it from other predicates.
use Rattle.std.proofs.Common.{◌≡◌, ℕ, ◌≤◌, Bool, true, false, ◌||◌, List, [], ◌∷◌, ◌++◌, Some, None, refl, sym, ap, ◌∙◌, subst, arith, append_assoc}
use Rattle.c_syntax.specs.declared.token.Token.{Token}
use Rattle.c_syntax.specs.declared.token.TokenKind.{TokenKind}
use Rattle.c_syntax.specs.declared.token.TokenKind.TheVariants as k
use Rattle.c_syntax.specs.declared.token.Punct.{Punct}
use Rattle.c_syntax.specs.declared.token.Punct.TheVariants as p
use Rattle.c_syntax.specs.declared.token.Word.TheVariants as w
use Rattle.c_syntax.specs.declared.expr.UnOp.{UnOp}
use Rattle.c_syntax.specs.declared.expr.BinOp.{BinOp}
use Rattle.c_syntax.specs.declared.expr.BinOp.TheVariants as o
use Rattle.c_syntax.specs.Term as t
use Rattle.c_grammar.specs.Tokens.{Names, token, punct, word, name}
use Rattle.c_grammar.specs.Operators.{binop_of, level, shift_level, field_of}
use Rattle.c_grammar.specs.Terms as g
use Rattle.c_grammar.specs.Terms.{Place, in_chain, term_unop_of}
use Rattle.c_grammar.specs.Reading.{past, punct_at}
use Rattle.parse_types.specs.Read.{starts_type}
use Rattle.parse_types.proofs.Laws.{type_name_starts}
use Rattle.parse_terms.specs.Next as n
use Rattle.parse_terms.proofs.Neutral.{Neutral, term_neutral, args_neutral}

or_right : (a b : Bool) → b ≡ true → a || b ≡ true
or_right true b h = refl
or_right false b h = h

or_left : (a b : Bool) → a ≡ true → a || b ≡ true
or_left true b h = refl
or_left false b h = absurd cc

continues_no_call_by : (kind : TokenKind) (line : ℕ) (ts : List Token) → n.continues_by kind ≡ true → punct_at p.OpenParen (token kind line ∷ ts) ≡ None
continues_no_call_by (k.Punct p.OpenParen) line ts h = absurd cc
continues_no_call_by (k.Punct _) line ts h = refl
continues_no_call_by _ line ts h = absurd cc

continues_no_call : (ts : List Token) → n.continues ts ≡ true → punct_at p.OpenParen ts ≡ None
unfolding n.continues
continues_no_call [] h = refl
continues_no_call (t ∷ ts) h = continues_no_call_by t.kind t.line ts h

-- an operator up to the shifts
operator_continues : (q : Punct) (op : BinOp) (line : ℕ) (ts : List Token) → binop_of q ≡ Some op → level op ≤ shift_level → n.continues (punct q line ∷ ts) ≡ true
unfolding n.continues
operator_continues p.Star op line ts h le = refl
operator_continues p.Slash op line ts h le = refl
operator_continues p.Percent op line ts h le = refl
operator_continues p.Plus op line ts h le = refl
operator_continues p.Minus op line ts h le = refl
operator_continues p.Shl op line ts h le = refl
operator_continues p.Shr op line ts h le = refl
operator_continues p.Less op line ts h le = refl
operator_continues p.AtMost op line ts h le = refl
operator_continues p.Greater op line ts h le = refl
operator_continues p.AtLeast op line ts h le = refl
operator_continues p.Equal op line ts h le = refl
operator_continues p.NotEqual op line ts h le = refl
operator_continues p.Amp op line ts h le = let same : o.BitAnd ≡ op = cc in absurd (omega (arith, le, ap level same))
operator_continues p.Caret op line ts h le = let same : o.BitXor ≡ op = cc in absurd (omega (arith, le, ap level same))
operator_continues p.Bar op line ts h le = let same : o.BitOr ≡ op = cc in absurd (omega (arith, le, ap level same))
operator_continues p.And op line ts h le = let same : o.And ≡ op = cc in absurd (omega (arith, le, ap level same))
operator_continues p.Or op line ts h le = let same : o.Or ≡ op = cc in absurd (omega (arith, le, ap level same))
operator_continues _ op line ts h le = absurd cc

-- behind parentheses that open here
behind_parens : (line : ℕ) (inside rest : List Token) → Neutral inside → past 0 false ((inside ++ punct p.CloseParen line ∷ []) ++ rest) ≡ Some (false, rest)
behind_parens line inside rest neutral = ap (past 0 false) (append_assoc inside (punct p.CloseParen line ∷ []) rest) ∙ neutral 0 false (punct p.CloseParen line ∷ rest)

continues_parens : (line : ℕ) (inside rest : List Token) → Neutral inside → n.continues rest ≡ true → n.continues_behind (past 0 false ((inside ++ punct p.CloseParen line ∷ []) ++ rest)) ≡ true
continues_parens line inside rest neutral h = ap n.continues_behind (behind_parens line inside rest neutral) ∙ h

abbrev Begins : (types : Names) → List Token → Type 0
Begins types xs = (rest : List Token) → n.continues rest ≡ true → n.begins_chain types (xs ++ rest) ≡ true

name_begins : (types : Names) (line : ℕ) (x : List ℕ) (rest : List Token) → n.continues rest ≡ true → n.begins_chain types (name x line ∷ rest) ≡ true
unfolding n.begins_chain
name_begins types line x rest h = ap (λ o. n.name_continues o rest) (continues_no_call rest h) ∙ h

call_begins : (types : Names) (line line' line'' : ℕ) (x : List ℕ) (inside : List Token) → Neutral inside → Begins types (name x line ∷ punct p.OpenParen line' ∷ (inside ++ punct p.CloseParen line'' ∷ []))
unfolding n.begins_chain
call_begins types line line' line'' x inside neutral rest h = continues_parens line'' inside rest neutral h

old_begins : (types : Names) (line line' line'' : ℕ) (inside : List Token) → Neutral inside → Begins types (word w.Old line ∷ punct p.OpenParen line' ∷ (inside ++ punct p.CloseParen line'' ∷ []))
unfolding n.begins_chain
old_begins types line line' line'' inside neutral rest h = continues_parens line'' inside rest neutral h

parens_begin : (types : Names) (line line' : ℕ) (inside : List Token) → Neutral inside → Begins types (punct p.OpenParen line ∷ (inside ++ punct p.CloseParen line' ∷ []))
unfolding n.begins_chain
parens_begin types line line' inside neutral rest h =
    let ts = (inside ++ punct p.CloseParen line' ∷ []) ++ rest in
    or_right (starts_type types ts) (n.continues_behind (past 0 false ts)) (continues_parens line' inside rest neutral h)

primary_begins : {types : Names} {room : ℕ} {xs : List Token} {a : t.Term} → g.SpellsTermPrimary types in_chain room xs a → Begins types xs
unfolding n.begins_chain
primary_begins g.constant rest h = refl
primary_begins g.character rest h = refl
primary_begins {types} (g.variable {line} {x} new) rest h = name_begins types line x rest h
primary_begins g.result rest h = refl
primary_begins g.null rest h = refl
primary_begins {types} (g.call {line} line' line'' {x} {inside} new s eq) rest h = subst (λ xs. n.begins_chain types (xs ++ rest) ≡ true) (sym eq) (call_begins types line line' line'' x inside (args_neutral s) rest h)
primary_begins {types} (g.old {line} line' line'' {inside} s eq) rest h = subst (λ xs. n.begins_chain types (xs ++ rest) ≡ true) (sym eq) (old_begins types line line' line'' inside (term_neutral s) rest h)
primary_begins {types} (g.at_label line' line'' line''' line'''' s eq) rest h = subst (λ xs. n.begins_chain types (xs ++ rest) ≡ true) (sym eq) refl
primary_begins {types} (g.parens line line' {inside} s eq) rest h = subst (λ xs. n.begins_chain types (xs ++ rest) ≡ true) (sym eq) (parens_begin types line line' inside (term_neutral s) rest h)

-- a term goes on with a part of it
goes_on : (types : Names) (base tail rest : List Token) → Begins types base → n.continues (tail ++ rest) ≡ true → n.begins_chain types ((base ++ tail) ++ rest) ≡ true
goes_on types base tail rest begins h = ap (n.begins_chain types) (append_assoc base tail rest) ∙ begins (tail ++ rest) h

bracket_continues : (line : ℕ) (ts : List Token) → n.continues (punct p.OpenBracket line ∷ ts) ≡ true
unfolding n.continues
bracket_continues line ts = refl

field_continues : (q : Punct) (arrow : Bool) (line : ℕ) (ts : List Token) → field_of q ≡ Some arrow → n.continues (punct q line ∷ ts) ≡ true
unfolding n.continues
field_continues p.Dot arrow line ts h = refl
field_continues p.Arrow arrow line ts h = refl
field_continues _ arrow line ts h = absurd cc

postfix_begins : {types : Names} {room : ℕ} {xs : List Token} {a : t.Term} → g.SpellsTermPostfix types in_chain room xs a → Begins types xs
postfix_begins (g.of_primary s) rest h = primary_begins s rest h
postfix_begins {types} (g.index {line} line' {base} {inside} s s' eq) rest h =
    let tail = punct p.OpenBracket line ∷ (inside ++ punct p.CloseBracket line' ∷ []) in
    subst (λ xs. n.begins_chain types (xs ++ rest) ≡ true) (sym eq) (goes_on types base tail rest (postfix_begins s) (bracket_continues line ((inside ++ punct p.CloseBracket line' ∷ []) ++ rest)))
postfix_begins {types} (g.field {line} line' q {arrow} {x} {base} which s eq) rest h =
    let tail = punct q line ∷ name x line' ∷ [] in
    subst (λ xs. n.begins_chain types (xs ++ rest) ≡ true) (sym eq) (goes_on types base tail rest (postfix_begins s) (field_continues q arrow line (name x line' ∷ rest) which))

prefix_begins : (types : Names) (q : Punct) (op : UnOp) (line : ℕ) (ts : List Token) → term_unop_of in_chain q ≡ Some op → n.begins_chain types (punct q line ∷ ts) ≡ true
unfolding n.begins_chain
prefix_begins types p.Amp op line ts h = refl
prefix_begins types p.Star op line ts h = refl
prefix_begins types p.Plus op line ts h = refl
prefix_begins types p.Minus op line ts h = refl
prefix_begins types p.Tilde op line ts h = refl
prefix_begins types _ op line ts h = absurd cc

cast_begins : (types : Names) (line : ℕ) (ts : List Token) → starts_type types ts ≡ true → n.begins_chain types (punct p.OpenParen line ∷ ts) ≡ true
unfolding n.begins_chain
cast_begins types line ts h = or_left (starts_type types ts) (n.continues_behind (past 0 false ts)) h

unary_begins : {types : Names} {room : ℕ} {xs : List Token} {a : t.Term} → g.SpellsTermUnary types in_chain room xs a → Begins types xs
unary_begins (g.of_postfix s) rest h = postfix_begins s rest h
unary_begins {types} (g.prefixed {line} {q} {op} {operand} which s) rest h = prefix_begins types q op line (operand ++ rest) which
unary_begins {types} (g.cast {line} line' {inside} {operand} {type} s s' eq) rest h =
    let tail = punct p.CloseParen line' ∷ operand in
    subst (λ xs. n.begins_chain types (xs ++ rest) ≡ true) (sym eq)
    (cast_begins types line ((inside ++ tail) ++ rest) (ap (starts_type types) (append_assoc inside tail rest) ∙ type_name_starts types inside type s (tail ++ rest)))

pub chain_begins : {types : Names} {m room : ℕ} {xs : List Token} {a : t.Term} → g.SpellsTermBinary types in_chain m room xs a → m ≤ shift_level → Begins types xs
chain_begins (g.of_unary s) le rest h = unary_begins s rest h
chain_begins {types} (g.binary {m = below} {line} q {op} {left} {right} within which at s s' eq) le rest h =
    let tight : level op ≤ shift_level = omega (arith, at, within, le) in
    subst (λ xs. n.begins_chain types (xs ++ rest) ≡ true) (sym eq)
    (goes_on types left (punct q line ∷ right) rest (chain_begins s (omega (arith, within, le))) (operator_continues q op line (right ++ rest) which tight))
