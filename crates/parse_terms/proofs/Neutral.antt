-- Terms are neutral for what comes after a bracket: in them each bracket is closed, and no `..` stands outside brackets.
use Rattle.std.proofs.Common.{◌≡◌, ℕ, suc, Bool, List, [], ◌∷◌, ◌++◌, Some, refl, sym, ap, ◌∙◌, subst, append_assoc}
use Rattle.c_syntax.specs.declared.token.Token.{Token}
use Rattle.c_syntax.specs.declared.token.Punct.{Punct}
use Rattle.c_syntax.specs.declared.token.Punct.TheVariants as p
use Rattle.c_syntax.specs.declared.token.Word.TheVariants as w
use Rattle.c_syntax.specs.declared.expr.UnOp.{UnOp}
use Rattle.c_syntax.specs.declared.expr.BinOp.{BinOp}
use Rattle.c_syntax.specs.Term as t
use Rattle.c_grammar.specs.Tokens.{Names, punct, word, name}
use Rattle.c_grammar.specs.Operators.{unop_of, binop_of, field_of}
use Rattle.c_grammar.specs.Terms as g
use Rattle.c_grammar.specs.Terms.{Place, anywhere, in_set, in_chain, term_unop_of}
use Rattle.c_grammar.specs.Reading.{past}
use Rattle.parse_types.proofs.Laws.{type_name_neutral}

abbrev pub Neutral : List Token → Type 0
Neutral xs = (depth : ℕ) (found : Bool) (rest : List Token) → past depth found (xs ++ rest) ≡ past depth found rest

-- what ends a bracket
abbrev Closes : List Token → Type 0
Closes xs = (depth : ℕ) (found : Bool) (rest : List Token) → past (suc depth) found (xs ++ rest) ≡ past depth found rest

both_neutral : (xs ys : List Token) → Neutral xs → Neutral ys → Neutral (xs ++ ys)
both_neutral xs ys first second depth found rest = ap (past depth found) (append_assoc xs ys rest) ∙ first depth found (ys ++ rest) ∙ second depth found rest

-- what comes before the end of a bracket
inside_closes : (xs ys : List Token) → Neutral xs → Closes ys → Closes (xs ++ ys)
inside_closes xs ys first second depth found rest = ap (past (suc depth) found) (append_assoc xs ys rest) ∙ first (suc depth) found (ys ++ rest) ∙ second depth found rest

-- `..` in a bracket
range_closes : (line : ℕ) (xs : List Token) → Closes xs → Closes (punct p.Range line ∷ xs)
range_closes line xs s depth found rest = s depth found rest

in_parens : (line : ℕ) (xs : List Token) → Closes xs → Neutral (punct p.OpenParen line ∷ xs)
in_parens line xs s depth found rest = s depth found rest

in_brackets : (line : ℕ) (xs : List Token) → Closes xs → Neutral (punct p.OpenBracket line ∷ xs)
in_brackets line xs s depth found rest = s depth found rest

paren : (line : ℕ) → Closes (punct p.CloseParen line ∷ [])
paren line depth found rest = refl

bracket : (line : ℕ) → Closes (punct p.CloseBracket line ∷ [])
bracket line depth found rest = refl

binop_neutral : (q : Punct) (op : BinOp) → binop_of q ≡ Some op → (line : ℕ) → Neutral (punct q line ∷ [])
binop_neutral p.Star op h line depth found rest = refl
binop_neutral p.Slash op h line depth found rest = refl
binop_neutral p.Percent op h line depth found rest = refl
binop_neutral p.Plus op h line depth found rest = refl
binop_neutral p.Minus op h line depth found rest = refl
binop_neutral p.Shl op h line depth found rest = refl
binop_neutral p.Shr op h line depth found rest = refl
binop_neutral p.Less op h line depth found rest = refl
binop_neutral p.AtMost op h line depth found rest = refl
binop_neutral p.Greater op h line depth found rest = refl
binop_neutral p.AtLeast op h line depth found rest = refl
binop_neutral p.Equal op h line depth found rest = refl
binop_neutral p.NotEqual op h line depth found rest = refl
binop_neutral p.Amp op h line depth found rest = refl
binop_neutral p.Caret op h line depth found rest = refl
binop_neutral p.Bar op h line depth found rest = refl
binop_neutral p.And op h line depth found rest = refl
binop_neutral p.Or op h line depth found rest = refl
binop_neutral _ op h line depth found rest = absurd cc

unop_neutral : (q : Punct) (op : UnOp) → unop_of q ≡ Some op → (line : ℕ) → Neutral (punct q line ∷ [])
unop_neutral p.Amp op h line depth found rest = refl
unop_neutral p.Star op h line depth found rest = refl
unop_neutral p.Plus op h line depth found rest = refl
unop_neutral p.Minus op h line depth found rest = refl
unop_neutral p.Tilde op h line depth found rest = refl
unop_neutral p.Not op h line depth found rest = refl
unop_neutral _ op h line depth found rest = absurd cc

-- an operator of a term is one of an expression
pub is_unop : (place : Place) (q : Punct) (op : UnOp) → term_unop_of place q ≡ Some op → unop_of q ≡ Some op
is_unop anywhere q op h = h
is_unop in_set q op h = h
is_unop in_chain p.Not op h = absurd cc
is_unop in_chain _ op h = h

field_neutral : (q : Punct) (arrow : Bool) → field_of q ≡ Some arrow → (line : ℕ) → Neutral (punct q line ∷ [])
field_neutral p.Dot arrow h line depth found rest = refl
field_neutral p.Arrow arrow h line depth found rest = refl
field_neutral _ arrow h line depth found rest = absurd cc

-- "(" lo ".." hi ")"
bounds_neutral : (line line' line'' : ℕ) (low high : List Token) → Neutral low → Neutral high → Neutral (punct p.OpenParen line ∷ (low ++ punct p.Range line' ∷ (high ++ punct p.CloseParen line'' ∷ [])))
bounds_neutral line line' line'' low high a b =
    in_parens line (low ++ punct p.Range line' ∷ (high ++ punct p.CloseParen line'' ∷ []))
    (inside_closes low (punct p.Range line' ∷ (high ++ punct p.CloseParen line'' ∷ [])) a
    (range_closes line' (high ++ punct p.CloseParen line'' ∷ []) (inside_closes high (punct p.CloseParen line'' ∷ []) b (paren line''))))

mutual
  pub primary_neutral : {types : Names} {place : Place} {room : ℕ} {xs : List Token} {a : t.Term} → g.SpellsTermPrimary types place room xs a → Neutral xs
  primary_neutral g.constant depth found rest = refl
  primary_neutral g.character depth found rest = refl
  primary_neutral (g.variable new) depth found rest = refl
  primary_neutral g.result depth found rest = refl
  primary_neutral g.null depth found rest = refl
  primary_neutral (g.call {line} line' line'' {x} {inside} new s eq) depth found rest =
      subst Neutral (sym eq) (both_neutral (name x line ∷ []) (punct p.OpenParen line' ∷ (inside ++ punct p.CloseParen line'' ∷ [])) (λ depth found rest. refl)
      (in_parens line' (inside ++ punct p.CloseParen line'' ∷ []) (inside_closes inside (punct p.CloseParen line'' ∷ []) (args_neutral s) (paren line'')))) depth found rest
  primary_neutral (g.old {line} line' line'' {inside} s eq) depth found rest =
      subst Neutral (sym eq) (both_neutral (word w.Old line ∷ []) (punct p.OpenParen line' ∷ (inside ++ punct p.CloseParen line'' ∷ [])) (λ depth found rest. refl)
      (in_parens line' (inside ++ punct p.CloseParen line'' ∷ []) (inside_closes inside (punct p.CloseParen line'' ∷ []) (term_neutral s) (paren line'')))) depth found rest
  primary_neutral (g.at_label {line} line' line'' line''' line'''' {label} {inside} s eq) depth found rest =
      let tail = punct p.Comma line'' ∷ name label line''' ∷ punct p.CloseParen line'''' ∷ [] in
      subst Neutral (sym eq) (both_neutral (word w.At line ∷ []) (punct p.OpenParen line' ∷ (inside ++ tail)) (λ depth found rest. refl)
      (in_parens line' (inside ++ tail) (inside_closes inside tail (term_neutral s) (λ depth found rest. refl)))) depth found rest
  primary_neutral (g.parens line line' {inside} s eq) depth found rest =
      subst Neutral (sym eq) (in_parens line (inside ++ punct p.CloseParen line' ∷ []) (inside_closes inside (punct p.CloseParen line' ∷ []) (term_neutral s) (paren line'))) depth found rest
  primary_neutral (g.spread_parens line line' {inside} s eq) depth found rest =
      subst Neutral (sym eq) (in_parens line (inside ++ punct p.CloseParen line' ∷ []) (inside_closes inside (punct p.CloseParen line' ∷ []) (spread_neutral s) (paren line'))) depth found rest

  pub spread_neutral : {types : Names} {place : Place} {room : ℕ} {xs : List Token} {a : t.Term} → g.SpellsSpread types place room xs a → Neutral xs
  spread_neutral (g.spread {line} {line''} line' line''' {first} {low} {high} s a b eq) depth found rest =
      let offsets = punct p.OpenParen line' ∷ (low ++ punct p.Range line'' ∷ (high ++ punct p.CloseParen line''' ∷ [])) in
      subst Neutral (sym eq)
      (both_neutral first (punct p.Plus line ∷ offsets) (term_neutral s)
      (both_neutral (punct p.Plus line ∷ []) offsets (λ depth found rest. refl) (bounds_neutral line' line'' line''' low high (term_neutral a) (term_neutral b)))) depth found rest

  pub args_neutral : {types : Names} {place : Place} {room : ℕ} {xs : List Token} {args : t.Terms} → g.SpellsTermArgs types place room xs args → Neutral xs
  args_neutral g.no_terms depth found rest = refl
  args_neutral (g.terms s) depth found rest = some_neutral s depth found rest

  pub some_neutral : {types : Names} {place : Place} {room : ℕ} {xs : List Token} {args : t.Terms} → g.SpellsSomeTerms types place room xs args → Neutral xs
  some_neutral (g.one_term s) depth found rest = term_neutral s depth found rest
  some_neutral (g.more_terms line {first} {rest = others} s s' eq) depth found rest =
      subst Neutral (sym eq) (both_neutral first (punct p.Comma line ∷ others) (term_neutral s) (both_neutral (punct p.Comma line ∷ []) others (λ depth found rest. refl) (some_neutral s'))) depth found rest

  pub postfix_neutral : {types : Names} {place : Place} {room : ℕ} {xs : List Token} {a : t.Term} → g.SpellsTermPostfix types place room xs a → Neutral xs
  postfix_neutral (g.of_primary s) depth found rest = primary_neutral s depth found rest
  postfix_neutral (g.index {line} line' {base} {inside} s s' eq) depth found rest =
      subst Neutral (sym eq)
      (both_neutral base (punct p.OpenBracket line ∷ (inside ++ punct p.CloseBracket line' ∷ [])) (postfix_neutral s)
      (in_brackets line (inside ++ punct p.CloseBracket line' ∷ []) (inside_closes inside (punct p.CloseBracket line' ∷ []) (term_neutral s') (bracket line')))) depth found rest
  postfix_neutral (g.range {line} {line'} line'' {base} {low} {high} s a b eq) depth found rest =
      let tail = punct p.Range line' ∷ (high ++ punct p.CloseBracket line'' ∷ []) in
      subst Neutral (sym eq)
      (both_neutral base (punct p.OpenBracket line ∷ (low ++ tail)) (postfix_neutral s)
      (in_brackets line (low ++ tail) (inside_closes low tail (term_neutral a)
      (range_closes line' (high ++ punct p.CloseBracket line'' ∷ []) (inside_closes high (punct p.CloseBracket line'' ∷ []) (term_neutral b) (bracket line'')))))) depth found rest
  postfix_neutral (g.field {line} line' q {arrow} {x} {base} which s eq) depth found rest =
      subst Neutral (sym eq)
      (both_neutral base (punct q line ∷ name x line' ∷ []) (postfix_neutral s) (both_neutral (punct q line ∷ []) (name x line' ∷ []) (field_neutral q arrow which line) (λ depth found rest. refl))) depth found rest

  pub unary_neutral : {types : Names} {place : Place} {room : ℕ} {xs : List Token} {a : t.Term} → g.SpellsTermUnary types place room xs a → Neutral xs
  unary_neutral (g.of_postfix s) depth found rest = postfix_neutral s depth found rest
  unary_neutral (g.prefixed {place} {line} {q} {op} {operand} which s) depth found rest =
      both_neutral (punct q line ∷ []) operand (unop_neutral q op (is_unop place q op which) line) (unary_neutral s) depth found rest
  unary_neutral {types} (g.cast {line} line' {inside} {operand} {type} s s' eq) depth found rest =
      subst Neutral (sym eq)
      (in_parens line (inside ++ punct p.CloseParen line' ∷ operand) (inside_closes inside (punct p.CloseParen line' ∷ operand) (type_name_neutral types inside type s) (unary_neutral s'))) depth found rest

  pub binary_neutral : {types : Names} {place : Place} {n room : ℕ} {xs : List Token} {a : t.Term} → g.SpellsTermBinary types place n room xs a → Neutral xs
  binary_neutral (g.of_unary s) depth found rest = unary_neutral s depth found rest
  binary_neutral (g.binary {line} q {op} {left} {right} le which at s s' eq) depth found rest =
      subst Neutral (sym eq)
      (both_neutral left (punct q line ∷ right) (binary_neutral s) (both_neutral (punct q line ∷ []) right (binop_neutral q op which line) (binary_neutral s'))) depth found rest

  pub term_neutral : {types : Names} {place : Place} {room : ℕ} {xs : List Token} {a : t.Term} → g.SpellsTerm types place room xs a → Neutral xs
  term_neutral (g.of_binary s) depth found rest = binary_neutral s depth found rest
  term_neutral (g.cond {line} line' {test} {yes = first} {no' = second} s a b eq) depth found rest =
      subst Neutral (sym eq)
      (both_neutral test (punct p.Question line ∷ (first ++ punct p.Colon line' ∷ second)) (binary_neutral s)
      (both_neutral (punct p.Question line ∷ []) (first ++ punct p.Colon line' ∷ second) (λ depth found rest. refl)
      (both_neutral first (punct p.Colon line' ∷ second) (term_neutral a) (both_neutral (punct p.Colon line' ∷ []) second (λ depth found rest. refl) (term_neutral b))))) depth found rest

pub pointer_neutral : {types : Names} {room : ℕ} {xs : List Token} {a : t.Term} → g.SpellsPointer types room xs a → Neutral xs
pointer_neutral (g.term s) depth found rest = term_neutral s depth found rest
pointer_neutral (g.spread s) depth found rest = spread_neutral s depth found rest
