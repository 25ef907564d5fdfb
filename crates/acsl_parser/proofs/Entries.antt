-- No entry of a set begins with `\nothing`.
use Rattle.std.proofs.Common.{◌≡◌, ℕ, List, [], ◌∷◌, ◌++◌, None, refl, sym, subst, append_assoc}
use Rattle.c_syntax.specs.declared.token.Token.{Token}
use Rattle.c_syntax.specs.declared.token.Word.TheVariants as w
use Rattle.c_syntax.specs.declared.token.Punct.TheVariants as p
use Rattle.c_syntax.specs.Term as t
use Rattle.c_grammar.specs.Tokens.{Names, punct, name}
use Rattle.c_grammar.specs.Terms as g
use Rattle.c_grammar.specs.Terms.{Place}
use Rattle.c_grammar.specs.Reading.{word_at}

abbrev pub NotNothing : List Token → Type 0
NotNothing ts = word_at w.Nothing ts ≡ None

-- the tokens at the front tell
first_of : (xs ys rest : List Token) → NotNothing (xs ++ (ys ++ rest)) → NotNothing ((xs ++ ys) ++ rest)
first_of xs ys rest f = subst NotNothing (sym (append_assoc xs ys rest)) f

primary_first : {types : Names} {place : Place} {room : ℕ} {xs : List Token} {a : t.Term} → g.SpellsTermPrimary types place room xs a → (rest : List Token) → NotNothing (xs ++ rest)
primary_first g.constant rest = refl
primary_first g.character rest = refl
primary_first (g.variable new) rest = refl
primary_first g.result rest = refl
primary_first g.null rest = refl
primary_first (g.call line' line'' new s eq) rest = subst (λ xs. NotNothing (xs ++ rest)) (sym eq) refl
primary_first (g.old line' line'' s eq) rest = subst (λ xs. NotNothing (xs ++ rest)) (sym eq) refl
primary_first (g.at_label line' line'' line''' line'''' s eq) rest = subst (λ xs. NotNothing (xs ++ rest)) (sym eq) refl
primary_first (g.parens line line' s eq) rest = subst (λ xs. NotNothing (xs ++ rest)) (sym eq) refl
primary_first (g.spread_parens line line' s eq) rest = subst (λ xs. NotNothing (xs ++ rest)) (sym eq) refl

postfix_first : {types : Names} {place : Place} {room : ℕ} {xs : List Token} {a : t.Term} → g.SpellsTermPostfix types place room xs a → (rest : List Token) → NotNothing (xs ++ rest)
postfix_first (g.of_primary s) rest = primary_first s rest
postfix_first (g.index {line} line' {base} {inside} s s' eq) rest =
    let tail = punct p.OpenBracket line ∷ (inside ++ punct p.CloseBracket line' ∷ []) in
    subst (λ xs. NotNothing (xs ++ rest)) (sym eq) (first_of base tail rest (postfix_first s (tail ++ rest)))
postfix_first (g.range {line} {line'} line'' {base} {low} {high} s a b eq) rest =
    let tail = punct p.OpenBracket line ∷ (low ++ punct p.Range line' ∷ (high ++ punct p.CloseBracket line'' ∷ [])) in
    subst (λ xs. NotNothing (xs ++ rest)) (sym eq) (first_of base tail rest (postfix_first s (tail ++ rest)))
postfix_first (g.field {line} line' q {x} {base} which s eq) rest =
    let tail = punct q line ∷ name x line' ∷ [] in
    subst (λ xs. NotNothing (xs ++ rest)) (sym eq) (first_of base tail rest (postfix_first s (tail ++ rest)))

unary_first : {types : Names} {place : Place} {room : ℕ} {xs : List Token} {a : t.Term} → g.SpellsTermUnary types place room xs a → (rest : List Token) → NotNothing (xs ++ rest)
unary_first (g.of_postfix s) rest = postfix_first s rest
unary_first (g.prefixed which s) rest = refl
unary_first (g.cast line' s s' eq) rest = subst (λ xs. NotNothing (xs ++ rest)) (sym eq) refl

binary_first : {types : Names} {place : Place} {n room : ℕ} {xs : List Token} {a : t.Term} → g.SpellsTermBinary types place n room xs a → (rest : List Token) → NotNothing (xs ++ rest)
binary_first (g.of_unary s) rest = unary_first s rest
binary_first (g.binary {line} q {left} {right} le which at s s' eq) rest =
    subst (λ xs. NotNothing (xs ++ rest)) (sym eq) (first_of left (punct q line ∷ right) rest (binary_first s ((punct q line ∷ right) ++ rest)))

term_first : {types : Names} {place : Place} {room : ℕ} {xs : List Token} {a : t.Term} → g.SpellsTerm types place room xs a → (rest : List Token) → NotNothing (xs ++ rest)
term_first (g.of_binary s) rest = binary_first s rest
term_first (g.cond {line} line' {test} {yes = first} {no' = second} s a b eq) rest =
    let tail = punct p.Question line ∷ (first ++ punct p.Colon line' ∷ second) in
    subst (λ xs. NotNothing (xs ++ rest)) (sym eq) (first_of test tail rest (binary_first s (tail ++ rest)))

pub entry_first : {types : Names} {room : ℕ} {xs : List Token} {a : t.Term} → g.SpellsEntry types room xs a → (rest : List Token) → NotNothing (xs ++ rest)
entry_first (g.entry s test) rest = term_first s rest
