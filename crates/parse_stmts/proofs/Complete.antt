-- The reader on lists reads whatever the grammar spells: parts of statements, and statements that have none in them.
use Rattle.std.proofs.Common.{◌≡◌, ℕ, ◌+◌, ◌-◌, ◌≤◌, Bool, true, false, cond, nat_le, List, [], ◌∷◌, ◌++◌, length, codes, Option, Some, None, refl, sym, ap, ◌∙◌, subst, arith, append_assoc, length-append}
use Rattle.std.proofs.lemmas.Bool.Decides.{nat_tests}
use Rattle.c_syntax.specs.declared.token.Token.{Token}
use Rattle.c_syntax.specs.declared.token.TokenKind.{TokenKind}
use Rattle.c_syntax.specs.declared.token.TokenKind.TheVariants as k
use Rattle.c_syntax.specs.declared.token.Punct.{Punct}
use Rattle.c_syntax.specs.declared.token.Punct.TheVariants as p
use Rattle.c_syntax.specs.declared.token.Word.TheVariants as w
use Rattle.c_syntax.specs.Expr as ex
use Rattle.c_syntax.specs.Pred.{Pred}
use Rattle.c_syntax.specs.Stmt as tree
use Rattle.c_syntax.specs.Contract.{LoopAnnot}
use Rattle.c_grammar.specs.Tokens.{Names, token, punct, word, annot_open, annot_close, first_line}
use Rattle.c_grammar.specs.Exprs.{SpellsExpr, SpellsCond}
use Rattle.c_grammar.specs.Annots as annots
use Rattle.c_grammar.specs.Annots.{SpellsLoop, SpellsAssert}
use Rattle.c_grammar.specs.Declarators as d
use Rattle.c_grammar.specs.Declarators.{SpellsVariables}
use Rattle.c_grammar.specs.Stmts as g
use Rattle.c_grammar.specs.Stmts.{SpellsOptional, SpellsFirst, ends_short}
use Rattle.c_grammar.specs.Reading.{◌>>=◌, punct_at, word_at, keyword_at, annot_close_at}
use Rattle.c_grammar.proofs.SingleTokens.{first_line_front}
use Rattle.parse_types.specs.Read.{starts_type}
use Rattle.parse_exprs.specs.Read.{expr_at, cond_at}
use Rattle.parse_decls.specs.Read.{variables_at}
use Rattle.acsl_parser.specs.Read.{loop_at, assert_at}
use Rattle.parse_leaf_stmts.specs.declared.forms.Form.{Form}
use Rattle.parse_leaf_stmts.specs.declared.forms.Form.TheVariants as form
use Rattle.parse_leaf_stmts.specs.Read as parts_of
use Rattle.parse_stmts.specs.Read as r
use Rattle.parse_leaf_stmts.specs.Read.{form_of}
use Rattle.parse_stmts.specs.Read.{Inside}
use Rattle.parse_stmts.proofs.Turns.{stmt_is}
use Rattle.parse_stmts.proofs.Starts.{may_begin, First, expr_first, begins_value, closes, punct_here, no_close, keyed, Begins, keyed_first, value_first}

-- what is spelled in statements is read
pub record Whole (types : Names) : Type 0 where
  pub expr_complete : (room : ℕ) (xs : List Token) (a : ex.Expr) → SpellsExpr types room xs a → (q : Punct) → closes q ≡ true → (line : ℕ) (rest : List Token)
      → expr_at types room (xs ++ punct q line ∷ rest) ≡ Some (a, punct q line ∷ rest)
  pub cond_complete : (room : ℕ) (xs : List Token) (a : ex.Expr) → SpellsCond types room xs a → (line : ℕ) (rest : List Token)
      → cond_at types room (xs ++ punct p.Colon line ∷ rest) ≡ Some (a, punct p.Colon line ∷ rest)
  pub variables_complete : (room : ℕ) (xs : List Token) (vs : List ex.VarDecl) → SpellsVariables types room xs vs → (rest : List Token) → variables_at types room (xs ++ rest) ≡ Some (vs, rest)
  pub loop_complete : (room end at : ℕ) (xs : List Token) (a : LoopAnnot) → SpellsLoop types room at xs a → (line : ℕ) (rest : List Token) → at + length (xs ++ annot_close line ∷ rest) ≡ end
      → loop_at types room end (xs ++ annot_close line ∷ rest) ≡ Some (a, annot_close line ∷ rest)
  pub assert_complete : (room : ℕ) (xs : List Token) (a : Pred × ℕ) → SpellsAssert types room xs a.0 a.1 → (line : ℕ) (rest : List Token)
      → assert_at types room (xs ++ annot_close line ∷ rest) ≡ Some (a, annot_close line ∷ rest)
  -- an annotation of a loop doesn't begin like an assertion
  pub loop_starts : (room at : ℕ) (xs : List Token) (a : LoopAnnot) → SpellsLoop types room at xs a → (line : ℕ) (rest : List Token) → keyword_at (codes "assert") (xs ++ annot_close line ∷ rest) ≡ None
  -- a declaration begins with a type, and nothing else does
  pub variables_start : (room : ℕ) (xs : List Token) (vs : List ex.VarDecl) → SpellsVariables types room xs vs → (rest : List Token) → starts_type types (xs ++ rest) ≡ true
  pub expr_starts : (room : ℕ) (xs : List Token) (a : ex.Expr) → SpellsExpr types room xs a → (rest : List Token) → starts_type types (xs ++ rest) ≡ false
  pub keyed_starts : (kind : TokenKind) (line : ℕ) (rest : List Token) → keyed kind ≡ true → starts_type types (token kind line ∷ rest) ≡ false

-- ---- first tokens

pub no_type : {types : Names} → Whole types → {xs : List Token} → Begins types xs → (rest : List Token) → starts_type types (xs ++ rest) ≡ false
no_type {types} whole (keyed_first f) rest = ap (λ l. starts_type types (l ++ rest)) f.all ∙ whole.keyed_starts f.kind f.line (f.rest ++ rest) f.holds
no_type {types} whole (value_first {room} value more {a} s eq) rest =
    ap (λ l. starts_type types (l ++ rest)) eq ∙ ap (starts_type types) (append_assoc value more rest) ∙ whole.expr_starts room value a s (more ++ rest)

abbrev not_here : Names → Punct → List Token → Type 0
not_here types q ts = starts_type types ts ≡ true → punct_at q ts ≡ None

-- a type begins with no brace and no semicolon
type_no_brace : (types : Names) → Whole types → (kind : TokenKind) (line : ℕ) (rest : List Token) → not_here types p.CloseBrace (token kind line ∷ rest)
type_no_brace types whole (k.Punct p.CloseBrace) line rest h = let never : true ≡ false = sym h ∙ whole.keyed_starts (k.Punct p.CloseBrace) line rest refl in absurd cc
type_no_brace types whole _ line rest h = refl

type_no_semicolon : (types : Names) → Whole types → (kind : TokenKind) (line : ℕ) (rest : List Token) → not_here types p.Semicolon (token kind line ∷ rest)
type_no_semicolon types whole (k.Punct p.Semicolon) line rest h = let never : true ≡ false = sym h ∙ whole.keyed_starts (k.Punct p.Semicolon) line rest refl in absurd cc
type_no_semicolon types whole _ line rest h = refl

type_no_else : (types : Names) → Whole types → (kind : TokenKind) (line : ℕ) (rest : List Token) → starts_type types (token kind line ∷ rest) ≡ true → word_at w.Else (token kind line ∷ rest) ≡ None
type_no_else types whole (k.Word w.Else) line rest h = let never : true ≡ false = sym h ∙ whole.keyed_starts (k.Word w.Else) line rest refl in absurd cc
type_no_else types whole _ line rest h = refl

pub no_brace_at : (types : Names) → Whole types → (ts : List Token) → starts_type types ts ≡ true → punct_at p.CloseBrace ts ≡ None
no_brace_at types whole [] h = refl
no_brace_at types whole (t ∷ ts) h = type_no_brace types whole t.kind t.line ts h

no_semicolon_at : (types : Names) → Whole types → (ts : List Token) → starts_type types ts ≡ true → punct_at p.Semicolon ts ≡ None
no_semicolon_at types whole [] h = refl
no_semicolon_at types whole (t ∷ ts) h = type_no_semicolon types whole t.kind t.line ts h

pub no_else_at : (types : Names) → Whole types → (ts : List Token) → starts_type types ts ≡ true → word_at w.Else ts ≡ None
no_else_at types whole [] h = refl
no_else_at types whole (t ∷ ts) h = type_no_else types whole t.kind t.line ts h

pub variables_some : {types : Names} {room : ℕ} {xs : List Token} {vs : List ex.VarDecl} → SpellsVariables types room xs vs → 1 ≤ length xs
variables_some (d.variables line {first} {second} {all} st ss eq) =
    omega (arith, ap length eq, length-append first (second ++ punct p.Semicolon line ∷ []), length-append second (punct p.Semicolon line ∷ []))

-- ---- parts of statements

pub ended_complete : (types : Names) → Whole types → (room : ℕ) (q : Punct) → closes q ≡ true → {xs : List Token} {a : ex.Expr} → SpellsExpr types room xs a → (line : ℕ) (rest : List Token)
    → parts_of.ended_at types room q (xs ++ punct q line ∷ rest) ≡ Some (a, rest)
unfolding parts_of.ended_at
ended_complete types whole room q c {xs} {a} s line rest =
    ap (λ o. o >>= λ a. punct_at q a.1 >>= λ x. Some (a.0, x.1)) (whole.expr_complete room xs a s q c line rest)
    ∙ ap (λ o. o >>= λ x. Some (a, x.1)) (punct_here q line rest c)

pub test_complete : (types : Names) → Whole types → (room : ℕ) {xs : List Token} {a : ex.Expr} → SpellsExpr types room xs a → (line line' : ℕ) (rest : List Token)
    → parts_of.test_at types room (punct p.OpenParen line ∷ (xs ++ punct p.CloseParen line' ∷ rest)) ≡ Some (a, rest)
unfolding parts_of.test_at
test_complete types whole room s line line' rest = ended_complete types whole room p.CloseParen refl s line' rest

pub optional_complete : (types : Names) → Whole types → (room : ℕ) (q : Punct) → closes q ≡ true → {xs : List Token} {a : Option ex.Expr} → SpellsOptional types room xs a → (line : ℕ) (rest : List Token)
    → parts_of.optional_at types room q (xs ++ punct q line ∷ rest) ≡ Some (a, rest)
unfolding parts_of.optional_at
optional_complete types whole room q c g.none line rest =
    ap (λ o. parts_of.optional_by o (parts_of.ended_at types room q (punct q line ∷ rest))) (punct_here q line rest c)
optional_complete types whole room q c (g.some {all} {a} s) line rest =
    let ts = all ++ punct q line ∷ rest in
    ap (λ o. parts_of.optional_by o (parts_of.ended_at types room q ts)) (no_close q all (punct q line ∷ rest) c (expr_first s))
    ∙ ap (λ o. o >>= λ a. Some (Some a.0, a.1)) (ended_complete types whole room q c s line rest)

abbrev as_expr : (line : ℕ) → Option (ex.Expr × List Token) → Option (tree.Stmt × List Token)
as_expr line o = o >>= λ a. Some (tree.expr line a.0, a.1)

pub value_complete : (types : Names) → Whole types → (room : ℕ) {xs : List Token} {a : ex.Expr} → SpellsExpr types room xs a → (line : ℕ) (all rest : List Token) → all ≡ xs ++ punct p.Semicolon line ∷ []
    → parts_of.value_at types room (all ++ rest) ≡ Some (tree.expr (first_line all) a, rest)
unfolding parts_of.value_at
value_complete types whole room {xs} {a} s line all rest eq =
    let semi = punct p.Semicolon line in
    let same : all ++ rest ≡ xs ++ semi ∷ rest = ap (λ l. l ++ rest) eq ∙ append_assoc xs (semi ∷ []) rest in
    let on : first_line (all ++ rest) ≡ first_line all = first_line_front all rest (omega (arith, ap length eq, length-append xs (semi ∷ []))) in
    ap (λ ts. as_expr (first_line (all ++ rest)) (parts_of.ended_at types room p.Semicolon ts)) same
    ∙ ap (as_expr (first_line (all ++ rest))) (ended_complete types whole room p.Semicolon refl s line rest)
    ∙ ap (λ line. Some (tree.expr line a, rest)) on

pub locals_complete : (types : Names) → Whole types → (room : ℕ) {xs : List Token} {vs : List ex.VarDecl} → SpellsVariables types room xs vs → (rest : List Token)
    → parts_of.locals_at types room (xs ++ rest) ≡ Some (tree.locals (first_line xs) vs, rest)
unfolding parts_of.locals_at
locals_complete types whole room {xs} {vs} s rest =
    ap (λ o. o >>= λ vs. Some (tree.locals (first_line (xs ++ rest)) vs.0, vs.1)) (whole.variables_complete room xs vs s rest)
    ∙ ap (λ line. Some (tree.locals line vs, rest)) (first_line_front xs rest (variables_some s))

first_complete : (types : Names) → Whole types → (room : ℕ) {xs : List Token} {i : tree.Stmt} → SpellsFirst types room xs i → (rest : List Token) → parts_of.first_at types room (xs ++ rest) ≡ Some (i, rest)
unfolding parts_of.first_at
first_complete types whole room g.nothing rest = refl
first_complete types whole room (g.expr line' {value} {all} {a} s eq) rest =
    let semi = punct p.Semicolon line' in
    let same : all ++ rest ≡ value ++ semi ∷ rest = ap (λ l. l ++ rest) eq ∙ append_assoc value (semi ∷ []) rest in
    let none : punct_at p.Semicolon (all ++ rest) ≡ None = ap (punct_at p.Semicolon) same ∙ no_close p.Semicolon value (semi ∷ rest) refl (expr_first s) in
    let other : starts_type types (all ++ rest) ≡ false = ap (starts_type types) same ∙ whole.expr_starts room value a s (semi ∷ rest) in
    ap (λ o. parts_of.first_by o (starts_type types (all ++ rest)) (parts_of.locals_at types room (all ++ rest)) (parts_of.value_at types room (all ++ rest))) none
    ∙ ap (λ b. parts_of.first_by None b (parts_of.locals_at types room (all ++ rest)) (parts_of.value_at types room (all ++ rest))) other
    ∙ value_complete types whole room s line' all rest eq
first_complete types whole room (g.variables {all} {vs} s) rest =
    let is : starts_type types (all ++ rest) ≡ true = whole.variables_start room all vs s rest in
    ap (λ o. parts_of.first_by o (starts_type types (all ++ rest)) (parts_of.locals_at types room (all ++ rest)) (parts_of.value_at types room (all ++ rest))) (no_semicolon_at types whole (all ++ rest) is)
    ∙ ap (λ b. parts_of.first_by None b (parts_of.locals_at types room (all ++ rest)) (parts_of.value_at types room (all ++ rest))) is
    ∙ locals_complete types whole room s rest

pub head_complete : (types : Names) → Whole types → (room : ℕ) {first test next : List Token} {i : tree.Stmt} {c n : Option ex.Expr} → SpellsFirst types room first i → SpellsOptional types room test c → SpellsOptional types room next n
    → (line line' line'' : ℕ) (rest : List Token)
    → parts_of.head_at types room (punct p.OpenParen line ∷ (first ++ (test ++ punct p.Semicolon line' ∷ (next ++ punct p.CloseParen line'' ∷ rest)))) ≡ Some ((i, c, n), rest)
unfolding parts_of.head_at
head_complete types whole room {first} {test} {next} {i} {c} {n} si sc sn line line' line'' rest =
    let after = next ++ punct p.CloseParen line'' ∷ rest in
    ap (λ o. o >>= λ i. parts_of.optional_at types room p.Semicolon i.1 >>= λ c. parts_of.optional_at types room p.CloseParen c.1 >>= λ n. Some ((i.0, c.0, n.0), n.1))
    (first_complete types whole room si (test ++ punct p.Semicolon line' ∷ after))
    ∙ ap (λ o. o >>= λ c. parts_of.optional_at types room p.CloseParen c.1 >>= λ n. Some ((i, c.0, n.0), n.1)) (optional_complete types whole room p.Semicolon refl sc line' after)
    ∙ ap (λ o. o >>= λ n. Some ((i, c, n.0), n.1)) (optional_complete types whole room p.CloseParen refl sn line'' rest)

pub do_end_complete : (types : Names) → Whole types → (room : ℕ) {xs : List Token} {a : ex.Expr} → SpellsExpr types room xs a → (line line' line'' line''' : ℕ) (rest : List Token)
    → parts_of.do_end_at types room (word w.While line ∷ punct p.OpenParen line' ∷ (xs ++ punct p.CloseParen line'' ∷ punct p.Semicolon line''' ∷ rest)) ≡ Some (a, rest)
unfolding parts_of.do_end_at
do_end_complete types whole room s line line' line'' line''' rest =
    ap (λ o. o >>= λ e. punct_at p.Semicolon e.1 >>= λ y. Some (e.0, y.1)) (test_complete types whole room s line' line'' (punct p.Semicolon line''' ∷ rest))

-- ---- statements that have none in them

-- read with the line of its first token
pub plain_is : (types : Names) (end room : ℕ) (loops breaks : Bool) (starts : List ℕ) (t : Token) (ts : List Token) (f : Form) → form_of t.kind ≡ f
    → ((inner : Inside) → r.stmt_by types end room inner loops breaks t.line f (starts ++ t.line ∷ []) ts (t ∷ ts) ≡ r.beside (starts ++ t.line ∷ []) (parts_of.plain_at types room loops breaks (t ∷ ts)))
    → r.stmt types end room loops breaks starts (t ∷ ts) ≡ r.beside (starts ++ t.line ∷ []) (parts_of.plain_at types room loops breaks (t ∷ ts))
plain_is types end room loops breaks starts t ts f eq h =
    let inner = r.stmt types end (room - 1) in
    stmt_is types end room loops breaks starts (t ∷ ts)
    ∙ ap (λ f. r.stmt_by types end room inner loops breaks t.line f (starts ++ t.line ∷ []) ts (t ∷ ts)) eq
    ∙ h inner

-- a statement is read at its place, where an `else` that comes next is not its own
abbrev pub ReadsStmt : Names → (end : ℕ) → (loops breaks : Bool) → (room at : ℕ) → List Token → tree.Stmt → List ℕ → Type 0
ReadsStmt types end loops breaks room at xs a own =
    (starts : List ℕ) (rest : List Token) → at + length (xs ++ rest) ≡ end → (ends_short a ≡ true → word_at w.Else rest ≡ None)
    → r.stmt types end room loops breaks starts (xs ++ rest) ≡ Some ((a, starts ++ own), rest)

pub read_empty : (types : Names) (end : ℕ) (loops breaks : Bool) (room at line : ℕ) → ReadsStmt types end loops breaks room at (punct p.Semicolon line ∷ []) (tree.empty line) (line ∷ [])
unfolding parts_of.plain_at
read_empty types end loops breaks room at line starts rest place taken =
    plain_is types end room loops breaks starts (punct p.Semicolon line) rest form.Empty refl (λ inner. refl)

pub read_break : (types : Names) (end : ℕ) (loops breaks : Bool) (room at line line' : ℕ) → breaks ≡ true → ReadsStmt types end loops breaks room at (word w.Break line ∷ punct p.Semicolon line' ∷ []) (tree.break line) (line ∷ [])
unfolding parts_of.plain_at parts_of.break_at
read_break types end loops breaks room at line line' h starts rest place taken =
    plain_is types end room loops breaks starts (word w.Break line) (punct p.Semicolon line' ∷ rest) form.Break refl (λ inner. refl)
    ∙ ap (λ b. r.beside (starts ++ line ∷ []) (parts_of.jump_at b (tree.break line) (punct p.Semicolon line' ∷ rest))) h

pub read_continue : (types : Names) (end : ℕ) (loops breaks : Bool) (room at line line' : ℕ) → loops ≡ true
    → ReadsStmt types end loops breaks room at (word w.Continue line ∷ punct p.Semicolon line' ∷ []) (tree.continue line) (line ∷ [])
unfolding parts_of.plain_at parts_of.continue_at
read_continue types end loops breaks room at line line' h starts rest place taken =
    plain_is types end room loops breaks starts (word w.Continue line) (punct p.Semicolon line' ∷ rest) form.Continue refl (λ inner. refl)
    ∙ ap (λ b. r.beside (starts ++ line ∷ []) (parts_of.jump_at b (tree.continue line) (punct p.Semicolon line' ∷ rest))) h

pub read_return : (types : Names) → Whole types → (end : ℕ) (loops breaks : Bool) (room at line line' : ℕ) {value : List Token} {a : Option ex.Expr} → SpellsOptional types room value a
    → ReadsStmt types end loops breaks room at (word w.Return line ∷ (value ++ punct p.Semicolon line' ∷ [])) (tree.return_of line a) (line ∷ [])
unfolding parts_of.plain_at parts_of.return_at
read_return types whole end loops breaks room at line line' {value} {a} s starts rest place taken =
    let semi = punct p.Semicolon line' in
    plain_is types end room loops breaks starts (word w.Return line) ((value ++ semi ∷ []) ++ rest) form.Return refl (λ inner. refl)
    ∙ ap (λ ts. r.beside (starts ++ line ∷ []) (parts_of.return_at types room line ts)) (append_assoc value (semi ∷ []) rest)
    ∙ ap (λ o. r.beside (starts ++ line ∷ []) (o >>= λ a. Some (tree.return_of line a.0, a.1))) (optional_complete types whole room p.Semicolon refl s line' rest)

-- an expression begins with a token that begins no other statement
value_by : (types : Names) (end : ℕ) (loops breaks : Bool) (room : ℕ) (starts : List ℕ) (t : Token) (ts : List Token) → form_of t.kind ≡ form.Value
    → r.stmt types end room loops breaks starts (t ∷ ts) ≡ r.beside (starts ++ t.line ∷ []) (parts_of.value_at types room (t ∷ ts))
unfolding parts_of.plain_at
value_by types end loops breaks room starts t ts h =
    plain_is types end room loops breaks starts t ts form.Value h (λ inner. refl)
    ∙ ap (λ f. r.beside (starts ++ t.line ∷ []) (parts_of.plain_by types room loops breaks t.line f ts (t ∷ ts))) h

value_here : (types : Names) (end : ℕ) (loops breaks : Bool) (room : ℕ) (starts : List ℕ) (xs : List Token) → First may_begin xs
    → r.stmt types end room loops breaks starts xs ≡ r.beside (starts ++ first_line xs ∷ []) (parts_of.value_at types room xs)
value_here types end loops breaks room starts xs f =
    subst (λ xs. r.stmt types end room loops breaks starts xs ≡ r.beside (starts ++ first_line xs ∷ []) (parts_of.value_at types room xs)) (sym f.all)
    (value_by types end loops breaks room starts (token f.kind f.line) f.rest (begins_value f.kind f.holds))

longer : (xs ys all : List Token) → all ≡ xs ++ ys → First may_begin xs → First may_begin all
longer xs ys all eq f = record { kind = f.kind; line = f.line; rest = f.rest ++ ys; all = eq ∙ ap (λ l. l ++ ys) f.all; holds = f.holds }

pub read_value : (types : Names) → Whole types → (end : ℕ) (loops breaks : Bool) (room at line' : ℕ) {value all : List Token} {a : ex.Expr} → SpellsExpr types room value a → all ≡ value ++ punct p.Semicolon line' ∷ []
    → ReadsStmt types end loops breaks room at all (tree.expr (first_line all) a) (first_line all ∷ [])
read_value types whole end loops breaks room at line' {value} {all} {a} s eq starts rest place taken =
    let semi = punct p.Semicolon line' in
    let same : all ++ rest ≡ value ++ semi ∷ rest = ap (λ l. l ++ rest) eq ∙ append_assoc value (semi ∷ []) rest in
    let on : first_line (all ++ rest) ≡ first_line all = first_line_front all rest (omega (arith, ap length eq, length-append value (semi ∷ []))) in
    value_here types end loops breaks room starts (all ++ rest) (longer value (semi ∷ rest) (all ++ rest) same (expr_first s))
    ∙ ap (r.beside (starts ++ first_line (all ++ rest) ∷ [])) (value_complete types whole room s line' all rest eq)
    ∙ ap (λ line. r.beside (starts ++ line ∷ []) (Some (tree.expr (first_line all) a, rest))) on

-- ---- annotations

-- an assertion begins with its word
assert_starts : {types : Names} {room : ℕ} {xs : List Token} {a : Pred} {line : ℕ} → SpellsAssert types room xs a line → (rest : List Token)
    → (y : ℕ × List Token) × (keyword_at (codes "assert") (xs ++ rest) ≡ Some y)
assert_starts (annots.assert {line} line' {inside} {all} s eq) rest =
    let tail = (inside ++ punct p.Semicolon line' ∷ []) ++ rest in
    ((line, tail), ap (λ l. keyword_at (codes "assert") (l ++ rest)) eq)

assertion_complete : (types : Names) → Whole types → (room : ℕ) {xs : List Token} {a : Pred} {line : ℕ} → SpellsAssert types room xs a line → (line' : ℕ) (rest : List Token)
    → parts_of.assertion_at types room (xs ++ annot_close line' ∷ rest) ≡ Some (tree.assert line a, rest)
unfolding parts_of.assertion_at
assertion_complete types whole room {xs} {a} {line} s line' rest =
    ap (λ o. o >>= λ a. annot_close_at a.1 >>= λ x. Some (tree.assert a.0.1 a.0.0, x.1)) (whole.assert_complete room xs (a, line) s line' rest)

pub read_assert : (types : Names) → Whole types → (end : ℕ) (loops breaks : Bool) (room at line line' line'' : ℕ) {inside : List Token} {a : Pred} → SpellsAssert types room inside a line
    → ReadsStmt types end loops breaks room at (annot_open line' ∷ (inside ++ annot_close line'' ∷ [])) (tree.assert line a) (line' ∷ [])
unfolding r.annotated
read_assert types whole end loops breaks room at line line' line'' {inside} {a} s starts rest place taken =
    let close' = annot_close line'' in
    let now = starts ++ line' ∷ [] in
    let inner = r.stmt types end (room - 1) in
    let ts = inside ++ close' ∷ rest in
    let word' = assert_starts s (close' ∷ rest) in
    stmt_is types end room loops breaks starts (annot_open line' ∷ ((inside ++ close' ∷ []) ++ rest))
    ∙ ap (r.annotated types end room inner now) (append_assoc inside (close' ∷ []) rest)
    ∙ ap (λ o. r.annotated_by o types end room inner now ts) word'.1
    ∙ ap (r.beside now) (assertion_complete types whole room s line'' rest)

pub loop_annot_complete : (types : Names) → Whole types → (room end at : ℕ) {xs : List Token} {a : LoopAnnot} → SpellsLoop types room at xs a → (line : ℕ) (rest : List Token)
    → at + length (xs ++ annot_close line ∷ rest) ≡ end → parts_of.loop_annot_at types room end (xs ++ annot_close line ∷ rest) ≡ Some (a, rest)
unfolding parts_of.loop_annot_at
loop_annot_complete types whole room end at {xs} {a} s line rest place =
    let ts = xs ++ annot_close line ∷ rest in
    let within : nat_le (length ts) end ≡ true = grind (arith, nat_tests) in
    ap (λ b. cond b (loop_at types room end ts >>= λ a. annot_close_at a.1 >>= λ x. Some (a.0, x.1)) None) within
    ∙ ap (λ o. o >>= λ a. annot_close_at a.1 >>= λ x. Some (a.0, x.1)) (whole.loop_complete room end at xs a s line rest place)
