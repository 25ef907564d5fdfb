-- The first tokens of statements.
use Rattle.std.proofs.Common.{◌≡◌, ℕ, ◌≤◌, Bool, true, false, List, [], ◌∷◌, ◌++◌, length, Some, None, refl, sym, ap, ◌∙◌, subst, arith}
use Rattle.c_syntax.specs.declared.token.Token.{Token}
use Rattle.c_syntax.specs.declared.token.TokenKind.{TokenKind}
use Rattle.c_syntax.specs.declared.token.TokenKind.TheVariants as k
use Rattle.c_syntax.specs.declared.token.Word.{Word}
use Rattle.c_syntax.specs.declared.token.Word.TheVariants as w
use Rattle.c_syntax.specs.declared.token.Punct.{Punct}
use Rattle.c_syntax.specs.declared.token.Punct.TheVariants as p
use Rattle.c_syntax.specs.declared.expr.UnOp.{UnOp}
use Rattle.c_syntax.specs.Expr as ex
use Rattle.c_syntax.specs.Stmt as tree
use Rattle.c_syntax.specs.Contract.{LoopAnnot}
use Rattle.c_grammar.specs.Tokens.{Names, token, punct, word}
use Rattle.c_grammar.specs.Operators.{unop_of, step_of}
use Rattle.c_grammar.specs.Exprs as exprs
use Rattle.c_grammar.specs.Exprs.{SpellsPrimary, SpellsPostfix, SpellsUnary, SpellsBinary, SpellsCond, SpellsExpr}
use Rattle.c_grammar.specs.Stmts as g
use Rattle.c_grammar.specs.Stmts.{SpellsLoopAnnot, SpellsStmt, is_block}
use Rattle.c_grammar.specs.Reading.{punct_at, word_at}
use Rattle.parse_leaf_stmts.specs.declared.forms.Form.{Form}
use Rattle.parse_leaf_stmts.specs.declared.forms.Form.TheVariants as form
use Rattle.parse_leaf_stmts.specs.Read.{form_of}

-- ---- expressions

-- whether a punctuator begins an expression
abbrev punct_begins : Punct → Bool
punct_begins p.Semicolon = false
punct_begins p.OpenBrace = false
punct_begins p.CloseBrace = false
punct_begins p.CloseParen = false
punct_begins p.Colon = false
punct_begins q = true

abbrev word_begins : Word → Bool
word_begins w.SizeOf = true
word_begins v = false

-- whether such a token may begin an expression
abbrev pub may_begin : TokenKind → Bool
may_begin (k.Punct q) = punct_begins q
may_begin (k.Word v) = word_begins v
may_begin k.AnnotOpen = false
may_begin k.AnnotClose = false
may_begin kind = true

-- the first token
pub record First (test : TokenKind → Bool) (xs : List Token) : Type 0 where
  pub kind : TokenKind
  pub line : ℕ
  pub rest : List Token
  pub all : xs ≡ token kind line ∷ rest
  pub holds : test kind ≡ true

first_now : (test : TokenKind → Bool) (kind : TokenKind) (line : ℕ) (rest all : List Token) → test kind ≡ true → all ≡ token kind line ∷ rest → First test all
first_now test kind line rest all h eq = record { kind = kind; line = line; rest = rest; all = eq; holds = h }

first_front : (test : TokenKind → Bool) (xs ys all : List Token) → all ≡ xs ++ ys → First test xs → First test all
first_front test xs ys all eq f = record { kind = f.kind; line = f.line; rest = f.rest ++ ys; all = eq ∙ ap (λ l. l ++ ys) f.all; holds = f.holds }

unop_begins : (q : Punct) (op : UnOp) → unop_of q ≡ Some op → punct_begins q ≡ true
unop_begins p.Semicolon op h = absurd cc
unop_begins p.OpenBrace op h = absurd cc
unop_begins p.CloseBrace op h = absurd cc
unop_begins p.CloseParen op h = absurd cc
unop_begins p.Colon op h = absurd cc
unop_begins _ op h = refl

step_begins : (q : Punct) (up : Bool) → step_of q ≡ Some up → punct_begins q ≡ true
step_begins p.Semicolon up h = absurd cc
step_begins p.OpenBrace up h = absurd cc
step_begins p.CloseBrace up h = absurd cc
step_begins p.CloseParen up h = absurd cc
step_begins p.Colon up h = absurd cc
step_begins _ up h = refl

primary_first : {types : Names} {room : ℕ} {xs : List Token} {a : ex.Expr} → SpellsPrimary types room xs a → First may_begin xs
primary_first (exprs.constant {line} {value} {base} {suffix}) = first_now may_begin (k.Number value base suffix) line [] _ refl refl
primary_first (exprs.character {line} {value}) = first_now may_begin (k.Char value) line [] _ refl refl
primary_first (exprs.variable {line} {x} h) = first_now may_begin (k.Name x) line [] _ refl refl
primary_first (exprs.call {line} line' line'' {x} h s eq) = first_now may_begin (k.Name x) line _ _ refl eq
primary_first (exprs.parens line line' s eq) = first_now may_begin (k.Punct p.OpenParen) line _ _ refl eq

postfix_first : {types : Names} {room : ℕ} {xs : List Token} {a : ex.Expr} → SpellsPostfix types room xs a → First may_begin xs
postfix_first (exprs.of_primary s) = primary_first s
postfix_first (exprs.index line' {base} {all} s s' eq) = first_front may_begin base _ all eq (postfix_first s)
postfix_first (exprs.field line' q {base} {all} h s eq) = first_front may_begin base _ all eq (postfix_first s)
postfix_first (exprs.step_behind q {base} {all} h s eq) = first_front may_begin base _ all eq (postfix_first s)

unary_first : {types : Names} {room : ℕ} {xs : List Token} {a : ex.Expr} → SpellsUnary types room xs a → First may_begin xs
unary_first (exprs.of_postfix s) = postfix_first s
unary_first (exprs.prefixed {line} {q} {op} {operand} h s) = first_now may_begin (k.Punct q) line operand _ (unop_begins q op h) refl
unary_first (exprs.step_before {line} {q} {up} {operand} h s) = first_now may_begin (k.Punct q) line operand _ (step_begins q up h) refl
unary_first (exprs.cast {line} line' s s' eq) = first_now may_begin (k.Punct p.OpenParen) line _ _ refl eq
unary_first (exprs.sizeof {line} line' line'' s eq) = first_now may_begin (k.Word w.SizeOf) line _ _ refl eq

binary_first : {types : Names} {n room : ℕ} {xs : List Token} {a : ex.Expr} → SpellsBinary types n room xs a → First may_begin xs
binary_first (exprs.of_unary s) = unary_first s
binary_first (exprs.binary q {left} {all} le h l s s' eq) = first_front may_begin left _ all eq (binary_first s)

cond_first : {types : Names} {room : ℕ} {xs : List Token} {a : ex.Expr} → SpellsCond types room xs a → First may_begin xs
cond_first (exprs.of_binary s) = binary_first s
cond_first (exprs.cond line' {test} {all} s s' s'' eq) = first_front may_begin test _ all eq (binary_first s)

pub expr_first : {types : Names} {room : ℕ} {xs : List Token} {a : ex.Expr} → SpellsExpr types room xs a → First may_begin xs
expr_first (exprs.of_cond s) = cond_first s
expr_first (exprs.assign q {place} {all} h s s' eq) = first_front may_begin place _ all eq (unary_first s)

pub begins_value : (kind : TokenKind) → may_begin kind ≡ true → form_of kind ≡ form.Value
begins_value (k.Punct p.Semicolon) h = absurd cc
begins_value (k.Punct p.OpenBrace) h = absurd cc
begins_value (k.Punct p.CloseBrace) h = absurd cc
begins_value (k.Punct p.CloseParen) h = absurd cc
begins_value (k.Punct p.Colon) h = absurd cc
begins_value (k.Punct _) h = refl
begins_value (k.Word w.SizeOf) h = refl
begins_value (k.Word _) h = absurd cc
begins_value k.AnnotOpen h = absurd cc
begins_value k.AnnotClose h = absurd cc
begins_value _ h = refl

-- what ends an expression
abbrev pub closes : Punct → Bool
closes p.Semicolon = true
closes p.CloseParen = true
closes p.Colon = true
closes q = false

pub punct_here : (q : Punct) (line : ℕ) (rest : List Token) → closes q ≡ true → punct_at q (punct q line ∷ rest) ≡ Some (line, rest)
punct_here p.Semicolon line rest h = refl
punct_here p.CloseParen line rest h = refl
punct_here p.Colon line rest h = refl
punct_here _ line rest h = absurd cc

no_close_by : (q : Punct) (kind : TokenKind) (line : ℕ) (rest : List Token) → closes q ≡ true → may_begin kind ≡ true → punct_at q (token kind line ∷ rest) ≡ None
no_close_by p.Semicolon (k.Punct p.Semicolon) line rest c h = absurd cc
no_close_by p.Semicolon _ line rest c h = refl
no_close_by p.CloseParen (k.Punct p.CloseParen) line rest c h = absurd cc
no_close_by p.CloseParen _ line rest c h = refl
no_close_by p.Colon (k.Punct p.Colon) line rest c h = absurd cc
no_close_by p.Colon _ line rest c h = refl
no_close_by _ kind line rest c h = absurd cc

-- an expression doesn't begin with what ends one
pub no_close : (q : Punct) (xs rest : List Token) → closes q ≡ true → First may_begin xs → punct_at q (xs ++ rest) ≡ None
no_close q xs rest c f = ap (λ l. punct_at q (l ++ rest)) f.all ∙ no_close_by q f.kind f.line (f.rest ++ rest) c f.holds

-- ---- statements

-- whether a token is one of those that statements are told apart by, and no type begins so
abbrev keyed_word : Word → Bool
keyed_word w.If = true
keyed_word w.Else = true
keyed_word w.While = true
keyed_word w.Do = true
keyed_word w.For = true
keyed_word w.Switch = true
keyed_word w.Break = true
keyed_word w.Continue = true
keyed_word w.Return = true
keyed_word v = false

abbrev keyed_punct : Punct → Bool
keyed_punct p.Semicolon = true
keyed_punct p.OpenBrace = true
keyed_punct p.CloseBrace = true
keyed_punct q = false

abbrev pub keyed : TokenKind → Bool
keyed (k.Word v) = keyed_word v
keyed (k.Punct q) = keyed_punct q
keyed k.AnnotOpen = true
keyed kind = false

-- whether a statement begins so
abbrev begins_stmt : Form → Bool
begins_stmt form.Nothing = false
begins_stmt f = true

abbrev pub stmt_begins : TokenKind → Bool
stmt_begins kind = begins_stmt (form_of kind)

value_begins : (kind : TokenKind) → may_begin kind ≡ true → stmt_begins kind ≡ true
value_begins kind h = ap begins_stmt (begins_value kind h)

first_value : (xs : List Token) → First may_begin xs → First stmt_begins xs
first_value xs f = record { kind = f.kind; line = f.line; rest = f.rest; all = f.all; holds = value_begins f.kind f.holds }

-- a loop begins with its annotation or with its word
loop_first : {types : Names} {room at : ℕ} {before : List Token} {annot : LoopAnnot} → SpellsLoopAnnot types room at before annot → (v : Word) (line : ℕ) (rest all : List Token)
    → all ≡ before ++ word v line ∷ rest → stmt_begins (k.Word v) ≡ true → First stmt_begins all
loop_first (g.none h) v line rest all eq b = first_now stmt_begins (k.Word v) line rest all b eq
loop_first (g.annotated line' line'' {all = before} s eq') v line rest all eq b =
    first_now stmt_begins k.AnnotOpen line' _ all refl (eq ∙ ap (λ l. l ++ word v line ∷ rest) eq')

pub stmt_first : {types : Names} {loops breaks : Bool} {room at : ℕ} {xs : List Token} {a : tree.Stmt} {own : List ℕ} → SpellsStmt types loops breaks room at xs a own → First stmt_begins xs
stmt_first (g.empty {line}) = first_now stmt_begins (k.Punct p.Semicolon) line [] _ refl refl
stmt_first (g.expr line' {value} {all} s eq) = first_front stmt_begins value _ all eq (first_value value (expr_first s))
stmt_first (g.block (g.between {line} {all} s eq)) = first_now stmt_begins (k.Punct p.OpenBrace) line _ all refl eq
stmt_first (g.if_only {line} line' line'' {all} s b eq) = first_now stmt_begins (k.Word w.If) line _ all refl eq
stmt_first (g.if_else {line} line' line'' line''' {all} s b c d eq) = first_now stmt_begins (k.Word w.If) line _ all refl eq
stmt_first (g.while_of {line} line' line'' {all} f s b eq) = loop_first f w.While line _ all eq refl
stmt_first (g.do_of {line} line' line'' line''' line'''' {all} f b s eq) = loop_first f w.Do line _ all eq refl
stmt_first (g.for_of {line} line' line'' line''' {all} f i c n b eq) = loop_first f w.For line _ all eq refl
stmt_first (g.switch {line} line' line'' line''' line'''' {all} s c h h' eq) = first_now stmt_begins (k.Word w.Switch) line _ all refl eq
stmt_first (g.break {line} line' h) = first_now stmt_begins (k.Word w.Break) line _ _ refl refl
stmt_first (g.continue {line} line' h) = first_now stmt_begins (k.Word w.Continue) line _ _ refl refl
stmt_first (g.return_of {line} line' {all} s eq) = first_now stmt_begins (k.Word w.Return) line _ all refl eq
stmt_first (g.assert line' line'' {all} s eq) = first_now stmt_begins k.AnnotOpen line' _ all refl eq

-- a statement that is no block doesn't begin with a brace
abbrev opens_no_block : TokenKind → Bool
opens_no_block (k.Punct p.OpenBrace) = false
opens_no_block kind = true

value_opens : (kind : TokenKind) → may_begin kind ≡ true → opens_no_block kind ≡ true
value_opens (k.Punct p.OpenBrace) h = absurd cc
value_opens _ h = refl

loop_opens : {types : Names} {room at : ℕ} {before : List Token} {annot : LoopAnnot} → SpellsLoopAnnot types room at before annot → (v : Word) (line : ℕ) (rest all : List Token)
    → all ≡ before ++ word v line ∷ rest → First opens_no_block all
loop_opens (g.none h) v line rest all eq = first_now opens_no_block (k.Word v) line rest all refl eq
loop_opens (g.annotated line' line'' {all = before} s eq') v line rest all eq =
    first_now opens_no_block k.AnnotOpen line' _ all refl (eq ∙ ap (λ l. l ++ word v line ∷ rest) eq')

plain_first : {types : Names} {loops breaks : Bool} {room at : ℕ} {xs : List Token} {a : tree.Stmt} {own : List ℕ} → SpellsStmt types loops breaks room at xs a own → is_block a ≡ false → First opens_no_block xs
plain_first (g.empty {line}) h = first_now opens_no_block (k.Punct p.Semicolon) line [] _ refl refl
plain_first (g.expr line' {value} {all} s eq) h =
    let f = expr_first s in
    first_front opens_no_block value _ all eq (record { kind = f.kind; line = f.line; rest = f.rest; all = f.all; holds = value_opens f.kind f.holds })
plain_first (g.block b) h = absurd cc
plain_first (g.if_only {line} line' line'' {all} s b eq) h = first_now opens_no_block (k.Word w.If) line _ all refl eq
plain_first (g.if_else {line} line' line'' line''' {all} s b c d eq) h = first_now opens_no_block (k.Word w.If) line _ all refl eq
plain_first (g.while_of {line} line' line'' {all} f s b eq) h = loop_opens f w.While line _ all eq
plain_first (g.do_of {line} line' line'' line''' line'''' {all} f b s eq) h = loop_opens f w.Do line _ all eq
plain_first (g.for_of {line} line' line'' line''' {all} f i c n b eq) h = loop_opens f w.For line _ all eq
plain_first (g.switch {line} line' line'' line''' line'''' {all} s c h' h'' eq) h = first_now opens_no_block (k.Word w.Switch) line _ all refl eq
plain_first (g.break {line} line' h') h = first_now opens_no_block (k.Word w.Break) line _ _ refl refl
plain_first (g.continue {line} line' h') h = first_now opens_no_block (k.Word w.Continue) line _ _ refl refl
plain_first (g.return_of {line} line' {all} s eq) h = first_now opens_no_block (k.Word w.Return) line _ all refl eq
plain_first (g.assert line' line'' {all} s eq) h = first_now opens_no_block k.AnnotOpen line' _ all refl eq

no_open_by : (kind : TokenKind) (line : ℕ) (rest : List Token) → opens_no_block kind ≡ true → punct_at p.OpenBrace (token kind line ∷ rest) ≡ None
no_open_by (k.Punct p.OpenBrace) line rest h = absurd cc
no_open_by _ line rest h = refl

pub no_open : {types : Names} {loops breaks : Bool} {room at : ℕ} {xs : List Token} {a : tree.Stmt} {own : List ℕ} → SpellsStmt types loops breaks room at xs a own → is_block a ≡ false
    → (rest : List Token) → punct_at p.OpenBrace (xs ++ rest) ≡ None
no_open s h rest = let f = plain_first s h in ap (λ l. punct_at p.OpenBrace (l ++ rest)) f.all ∙ no_open_by f.kind f.line (f.rest ++ rest) f.holds

-- what doesn't come where a statement does
pub record Goes (ts : List Token) : Type 0 where
  pub no_brace : punct_at p.CloseBrace ts ≡ None
  pub no_else : word_at w.Else ts ≡ None
  pub no_case : word_at w.Case ts ≡ None
  pub no_default : word_at w.Default ts ≡ None

goes_by : (kind : TokenKind) (line : ℕ) (rest : List Token) → stmt_begins kind ≡ true → Goes (token kind line ∷ rest)
goes_by (k.Punct p.CloseBrace) line rest h = absurd cc
goes_by (k.Word w.Else) line rest h = absurd cc
goes_by (k.Word w.Case) line rest h = absurd cc
goes_by (k.Word w.Default) line rest h = absurd cc
goes_by _ line rest h = record { no_brace = refl; no_else = refl; no_case = refl; no_default = refl }

pub stmt_goes : {types : Names} {loops breaks : Bool} {room at : ℕ} {xs : List Token} {a : tree.Stmt} {own : List ℕ} → SpellsStmt types loops breaks room at xs a own → (rest : List Token) → Goes (xs ++ rest)
stmt_goes s rest = let f = stmt_first s in subst (λ l. Goes (l ++ rest)) (sym f.all) (goes_by f.kind f.line (f.rest ++ rest) f.holds)

pub stmt_some : {types : Names} {loops breaks : Bool} {room at : ℕ} {xs : List Token} {a : tree.Stmt} {own : List ℕ} → SpellsStmt types loops breaks room at xs a own → 1 ≤ length xs
stmt_some s = let f = stmt_first s in omega (arith, ap length f.all)

-- a statement that is no expression begins with a token of its own
loop_keyed : {types : Names} {room at : ℕ} {before : List Token} {annot : LoopAnnot} → SpellsLoopAnnot types room at before annot → (v : Word) (line : ℕ) (rest all : List Token)
    → all ≡ before ++ word v line ∷ rest → keyed (k.Word v) ≡ true → First keyed all
loop_keyed (g.none h) v line rest all eq b = first_now keyed (k.Word v) line rest all b eq
loop_keyed (g.annotated line' line'' {all = before} s eq') v line rest all eq b =
    first_now keyed k.AnnotOpen line' _ all refl (eq ∙ ap (λ l. l ++ word v line ∷ rest) eq')

-- such a token comes first, or an expression
pub data Begins (types : Names) (xs : List Token) : Type 0 where
  keyed_first : First keyed xs → Begins types xs
  value_first : {room : ℕ} (value rest : List Token) {a : ex.Expr} → SpellsExpr types room value a → xs ≡ value ++ rest → Begins types xs

pub stmt_begun : {types : Names} {loops breaks : Bool} {room at : ℕ} {xs : List Token} {a : tree.Stmt} {own : List ℕ} → SpellsStmt types loops breaks room at xs a own → Begins types xs
stmt_begun (g.empty {line}) = keyed_first (first_now keyed (k.Punct p.Semicolon) line [] _ refl refl)
stmt_begun (g.expr line' {value} {all} s eq) = value_first value _ s eq
stmt_begun (g.block (g.between {line} {all} s eq)) = keyed_first (first_now keyed (k.Punct p.OpenBrace) line _ all refl eq)
stmt_begun (g.if_only {line} line' line'' {all} s b eq) = keyed_first (first_now keyed (k.Word w.If) line _ all refl eq)
stmt_begun (g.if_else {line} line' line'' line''' {all} s b c d eq) = keyed_first (first_now keyed (k.Word w.If) line _ all refl eq)
stmt_begun (g.while_of {line} line' line'' {all} f s b eq) = keyed_first (loop_keyed f w.While line _ all eq refl)
stmt_begun (g.do_of {line} line' line'' line''' line'''' {all} f b s eq) = keyed_first (loop_keyed f w.Do line _ all eq refl)
stmt_begun (g.for_of {line} line' line'' line''' {all} f i c n b eq) = keyed_first (loop_keyed f w.For line _ all eq refl)
stmt_begun (g.switch {line} line' line'' line''' line'''' {all} s c h h' eq) = keyed_first (first_now keyed (k.Word w.Switch) line _ all refl eq)
stmt_begun (g.break {line} line' h) = keyed_first (first_now keyed (k.Word w.Break) line _ _ refl refl)
stmt_begun (g.continue {line} line' h) = keyed_first (first_now keyed (k.Word w.Continue) line _ _ refl refl)
stmt_begun (g.return_of {line} line' {all} s eq) = keyed_first (first_now keyed (k.Word w.Return) line _ all refl eq)
stmt_begun (g.assert line' line'' {all} s eq) = keyed_first (first_now keyed k.AnnotOpen line' _ all refl eq)
