-- How a term begins: not as a type, not with a closing parenthesis, and not with a parenthesis around a range.
use Rattle.std.proofs.Common.{◌≡◌, ℕ, false, List, [], ◌∷◌, ◌++◌, Some, None, refl, sym, ap, ◌∙◌, subst, append_assoc}
use Rattle.c_syntax.specs.declared.token.Token.{Token}
use Rattle.c_syntax.specs.declared.token.Punct.{Punct}
use Rattle.c_syntax.specs.declared.token.Punct.TheVariants as p
use Rattle.c_syntax.specs.declared.expr.UnOp.{UnOp}
use Rattle.c_syntax.specs.Term as t
use Rattle.c_grammar.specs.Tokens.{Names, punct, name}
use Rattle.c_grammar.specs.Operators.{unop_of}
use Rattle.c_grammar.specs.Terms as g
use Rattle.c_grammar.specs.Terms.{Place, anywhere, in_set, in_chain, term_unop_of}
use Rattle.c_grammar.specs.Reading.{past, punct_at}
use Rattle.parse_types.specs.Read.{starts_type}
use Rattle.parse_types.proofs.Laws.{type_name_neutral}
use Rattle.parse_terms.specs.Read as r
use Rattle.parse_terms.proofs.Neutral.{Neutral, is_unop, term_neutral, spread_neutral}

abbrev pub First : (types : Names) → List Token → Type 0
First types ts = (starts_type types ts ≡ false) × (punct_at p.CloseParen ts ≡ None) × (r.opens_range ts ≡ false)

-- the tokens at the front tell
first_of : (types : Names) (xs ys rest : List Token) → First types (xs ++ (ys ++ rest)) → First types ((xs ++ ys) ++ rest)
first_of types xs ys rest f = subst (First types) (sym (append_assoc xs ys rest)) f

unop_first : (types : Names) (q : Punct) (op : UnOp) → unop_of q ≡ Some op → (line : ℕ) (ts : List Token) → First types (punct q line ∷ ts)
unfolding starts_type r.opens_range
unop_first types p.Amp op h line ts = (refl, refl, refl)
unop_first types p.Star op h line ts = (refl, refl, refl)
unop_first types p.Plus op h line ts = (refl, refl, refl)
unop_first types p.Minus op h line ts = (refl, refl, refl)
unop_first types p.Tilde op h line ts = (refl, refl, refl)
unop_first types p.Not op h line ts = (refl, refl, refl)
unop_first types _ op h line ts = absurd cc

-- a parenthesis with no `..` directly in it
parens_first : (types : Names) (line line' : ℕ) (inside tail rest : List Token) → Neutral inside → First types ((punct p.OpenParen line ∷ (inside ++ punct p.CloseParen line' ∷ tail)) ++ rest)
unfolding starts_type r.opens_range
parens_first types line line' inside tail rest neutral =
    let close' = punct p.CloseParen line' in
    (refl, refl, ap r.is_found (ap (past 0 false) (append_assoc inside (close' ∷ tail) rest) ∙ neutral 0 false (close' ∷ (tail ++ rest))))

primary_first : {types : Names} {place : Place} {room : ℕ} {xs : List Token} {a : t.Term} → g.SpellsTermPrimary types place room xs a → (rest : List Token) → First types (xs ++ rest)
unfolding starts_type r.opens_range
primary_first g.constant rest = (refl, refl, refl)
primary_first g.character rest = (refl, refl, refl)
primary_first (g.variable new) rest = (new, refl, refl)
primary_first g.result rest = (refl, refl, refl)
primary_first g.null rest = (refl, refl, refl)
primary_first {types} (g.call line' line'' new s eq) rest = subst (λ xs. First types (xs ++ rest)) (sym eq) (new, refl, refl)
primary_first {types} (g.old line' line'' s eq) rest = subst (λ xs. First types (xs ++ rest)) (sym eq) (refl, refl, refl)
primary_first {types} (g.at_label line' line'' line''' line'''' s eq) rest = subst (λ xs. First types (xs ++ rest)) (sym eq) (refl, refl, refl)
primary_first {types} (g.parens line line' {inside} s eq) rest = subst (λ xs. First types (xs ++ rest)) (sym eq) (parens_first types line line' inside [] rest (term_neutral s))
primary_first {types} (g.spread_parens line line' {inside} s eq) rest = subst (λ xs. First types (xs ++ rest)) (sym eq) (parens_first types line line' inside [] rest (spread_neutral s))

postfix_first : {types : Names} {place : Place} {room : ℕ} {xs : List Token} {a : t.Term} → g.SpellsTermPostfix types place room xs a → (rest : List Token) → First types (xs ++ rest)
postfix_first (g.of_primary s) rest = primary_first s rest
postfix_first {types} (g.index {line} line' {base} {inside} s s' eq) rest =
    let tail = punct p.OpenBracket line ∷ (inside ++ punct p.CloseBracket line' ∷ []) in
    subst (λ xs. First types (xs ++ rest)) (sym eq) (first_of types base tail rest (postfix_first s (tail ++ rest)))
postfix_first {types} (g.range {line} {line'} line'' {base} {low} {high} s a b eq) rest =
    let tail = punct p.OpenBracket line ∷ (low ++ punct p.Range line' ∷ (high ++ punct p.CloseBracket line'' ∷ [])) in
    subst (λ xs. First types (xs ++ rest)) (sym eq) (first_of types base tail rest (postfix_first s (tail ++ rest)))
postfix_first {types} (g.field {line} line' q {arrow} {x} {base} which s eq) rest =
    let tail = punct q line ∷ name x line' ∷ [] in
    subst (λ xs. First types (xs ++ rest)) (sym eq) (first_of types base tail rest (postfix_first s (tail ++ rest)))

pub unary_first : {types : Names} {place : Place} {room : ℕ} {xs : List Token} {a : t.Term} → g.SpellsTermUnary types place room xs a → (rest : List Token) → First types (xs ++ rest)
unary_first (g.of_postfix s) rest = postfix_first s rest
unary_first {types} (g.prefixed {place} {line} {q} {op} {operand} which s) rest = unop_first types q op (is_unop place q op which) line (operand ++ rest)
unary_first {types} (g.cast {line} line' {inside} {operand} {type} s s' eq) rest =
    subst (λ xs. First types (xs ++ rest)) (sym eq) (parens_first types line line' inside operand rest (type_name_neutral types inside type s))

pub binary_first : {types : Names} {place : Place} {n room : ℕ} {xs : List Token} {a : t.Term} → g.SpellsTermBinary types place n room xs a → (rest : List Token) → First types (xs ++ rest)
binary_first (g.of_unary s) rest = unary_first s rest
binary_first {types} (g.binary {line} q {op} {left} {right} le which at s s' eq) rest =
    subst (λ xs. First types (xs ++ rest)) (sym eq) (first_of types left (punct q line ∷ right) rest (binary_first s ((punct q line ∷ right) ++ rest)))

pub term_first : {types : Names} {place : Place} {room : ℕ} {xs : List Token} {a : t.Term} → g.SpellsTerm types place room xs a → (rest : List Token) → First types (xs ++ rest)
term_first (g.of_binary s) rest = binary_first s rest
term_first {types} (g.cond {line} line' {test} {yes = first} {no' = second} s a b eq) rest =
    let tail = punct p.Question line ∷ (first ++ punct p.Colon line' ∷ second) in
    subst (λ xs. First types (xs ++ rest)) (sym eq) (first_of types test tail rest (binary_first s (tail ++ rest)))

pub spread_first : {types : Names} {place : Place} {room : ℕ} {xs : List Token} {a : t.Term} → g.SpellsSpread types place room xs a → (rest : List Token) → First types (xs ++ rest)
spread_first {types} (g.spread {line} {line''} line' line''' {first} {low} {high} s a b eq) rest =
    let tail = punct p.Plus line ∷ punct p.OpenParen line' ∷ (low ++ punct p.Range line'' ∷ (high ++ punct p.CloseParen line''' ∷ [])) in
    subst (λ xs. First types (xs ++ rest)) (sym eq) (first_of types first tail rest (term_first s (tail ++ rest)))

pub some_first : {types : Names} {place : Place} {room : ℕ} {xs : List Token} {args : t.Terms} → g.SpellsSomeTerms types place room xs args → (rest : List Token) → First types (xs ++ rest)
some_first (g.one_term s) rest = term_first s rest
some_first {types} (g.more_terms line {first} {rest = others} s s' eq) rest =
    subst (λ xs. First types (xs ++ rest)) (sym eq) (first_of types first (punct p.Comma line ∷ others) rest (term_first s ((punct p.Comma line ∷ others) ++ rest)))
