-- Statements (C11 6.8) as relations between whole token lists and plain trees. `loops` says whether a loop is around, `breaks` whether a loop or
-- a `switch` is; `room` more forms may be open: brackets and braces with their contents, and each statement without braces that is the body of
-- an `if`, an `else` or a loop. `at` is the place of the first token. `starts` are the lines on which the statements begin, in order.
use Rattle.std.specs.Prelude.{◌≡◌, ℕ, ◌+◌, suc, Bool, true, false, List, [], ◌∷◌, ◌++◌, length, Option, Some, None, nat_le}
use Rattle.c_syntax.specs.declared.token.Token.{Token}
use Rattle.c_syntax.specs.declared.token.Punct.TheVariants as p
use Rattle.c_syntax.specs.declared.token.Word.TheVariants as w
use Rattle.c_syntax.specs.Expr as e
use Rattle.c_syntax.specs.Pred as r
use Rattle.c_syntax.specs.Stmt as s
use Rattle.c_syntax.specs.Contract.{LoopAnnot}
use Rattle.c_grammar.specs.Tokens.{Names, punct, word, annot_open, annot_close, first_line}
use Rattle.c_grammar.specs.Exprs.{SpellsExpr, SpellsCond}
use Rattle.c_grammar.specs.Annots.{SpellsLoop, SpellsAssert, loop_of}
use Rattle.c_grammar.specs.Declarators.{SpellsVariables}

-- ---- of trees

abbrev pub is_block : s.Stmt → Bool
is_block (s.block line body) = true
is_block a = false

-- whether an `else` behind it would be its own: it ends in an `if` without one
abbrev pub ends_short : s.Stmt → Bool
ends_short (s.if_only line test a) = true
ends_short (s.if_else line test a b) = ends_short b
ends_short (s.while_of line annot test a) = ends_short a
ends_short (s.for_of line annot first test next a) = ends_short a
ends_short a = false

abbrev pub is_label : s.Stmt → Bool
is_label (s.case_of line value) = true
is_label (s.default line) = true
is_label a = false

-- nothing comes before the first label
abbrev pub begins_labelled : s.Stmts → Bool
begins_labelled s.stop = true
begins_labelled (s.more a rest) = is_label a

abbrev pub defaults : s.Stmts → ℕ
defaults s.stop = 0
defaults (s.more (s.default line) rest) = suc (defaults rest)
defaults (s.more a rest) = defaults rest

-- ---- parts of statements

-- [expr]
pub data SpellsOptional (types : Names) (room : ℕ) : List Token → Option e.Expr → Type 0 where
  none : SpellsOptional types room [] None
  some : {all : List Token} {a : e.Expr} → SpellsExpr types room all a → SpellsOptional types room all (Some a)

-- what a `for` does first: [expr] ";" or a declaration (C11 6.8.5.3)
pub data SpellsFirst (types : Names) (room : ℕ) : List Token → s.Stmt → Type 0 where
  nothing : {line : ℕ} → SpellsFirst types room (punct p.Semicolon line ∷ []) (s.empty line)
  expr : (line' : ℕ) {value all : List Token} {a : e.Expr}
      → SpellsExpr types room value a → all ≡ value ++ punct p.Semicolon line' ∷ [] → SpellsFirst types room all (s.expr (first_line all) a)
  variables : {all : List Token} {vs : List e.VarDecl} → SpellsVariables types room all vs → SpellsFirst types room all (s.locals (first_line all) vs)

-- ["/*@" loop "*/"] (ACSL 2.4.2)
pub data SpellsLoopAnnot (types : Names) (room at : ℕ) : List Token → LoopAnnot → Type 0 where
  none : {annot : LoopAnnot} → annot ≡ loop_of [] → SpellsLoopAnnot types room at [] annot
  annotated : (line line' : ℕ) {inside all : List Token} {annot : LoopAnnot}
      → SpellsLoop types room (suc at) inside annot
      → all ≡ annot_open line ∷ (inside ++ annot_close line' ∷ []) → SpellsLoopAnnot types room at all annot

-- ---- statements

mutual
  pub data SpellsStmt (types : Names) : (loops breaks : Bool) (room at : ℕ) → List Token → s.Stmt → (starts : List ℕ) → Type 0 where
    empty : {loops breaks : Bool} {room at line : ℕ} → SpellsStmt types loops breaks room at (punct p.Semicolon line ∷ []) (s.empty line) (line ∷ [])
    expr : {loops breaks : Bool} {room at : ℕ} (line' : ℕ) {value all : List Token} {a : e.Expr}
        → SpellsExpr types room value a
        → all ≡ value ++ punct p.Semicolon line' ∷ [] → SpellsStmt types loops breaks room at all (s.expr (first_line all) a) (first_line all ∷ [])
    block : {loops breaks : Bool} {room at line end : ℕ} {all : List Token} {body : s.Stmts} {starts : List ℕ}
        → SpellsBlock types loops breaks room at all line end body starts → SpellsStmt types loops breaks room at all (s.block line body) (line ∷ starts)
    -- "if" "(" expr ")" body (C11 6.8.4.1)
    if_only : {loops breaks : Bool} {room at line : ℕ} (line' line'' : ℕ) {test one all : List Token} {e : e.Expr} {a : s.Stmt} {starts : List ℕ}
        → SpellsExpr types room test e → SpellsBody types loops breaks (suc room) (at + length test + 3) one a starts
        → all ≡ word w.If line ∷ punct p.OpenParen line' ∷ (test ++ punct p.CloseParen line'' ∷ one)
        → SpellsStmt types loops breaks (suc room) at all (s.if_only line e a) (line ∷ starts)
    -- "if" "(" expr ")" body "else" body; an `else` belongs to the nearest `if`
    if_else : {loops breaks : Bool} {room at line : ℕ} (line' line'' line''' : ℕ) {test one two all : List Token} {e : e.Expr} {a b : s.Stmt} {starts starts' : List ℕ}
        → SpellsExpr types room test e → SpellsBody types loops breaks (suc room) (at + length test + 3) one a starts → ends_short a ≡ false
        → SpellsBody types loops breaks (suc room) (at + length test + length one + 4) two b starts'
        → all ≡ word w.If line ∷ punct p.OpenParen line' ∷ (test ++ punct p.CloseParen line'' ∷ (one ++ word w.Else line''' ∷ two))
        → SpellsStmt types loops breaks (suc room) at all (s.if_else line e a b) (line ∷ (starts ++ starts'))
    -- annotation "while" "(" expr ")" body (C11 6.8.5)
    while_of : {loops breaks : Bool} {room at line : ℕ} (line' line'' : ℕ) {first test one all : List Token} {annot : LoopAnnot} {e : e.Expr} {a : s.Stmt} {starts : List ℕ}
        → SpellsLoopAnnot types (suc room) at first annot → SpellsExpr types room test e
        → SpellsBody types true true (suc room) (at + length first + length test + 3) one a starts
        → all ≡ first ++ word w.While line ∷ punct p.OpenParen line' ∷ (test ++ punct p.CloseParen line'' ∷ one)
        → SpellsStmt types loops breaks (suc room) at all (s.while_of line annot e a) (first_line all ∷ starts)
    -- annotation "do" body "while" "(" expr ")" ";"
    do_of : {loops breaks : Bool} {room at line : ℕ} (line' line'' line''' line'''' : ℕ) {first one test all : List Token} {annot : LoopAnnot} {a : s.Stmt} {e : e.Expr} {starts : List ℕ}
        → SpellsLoopAnnot types (suc room) at first annot → SpellsBody types true true (suc room) (at + length first + 1) one a starts
        → SpellsExpr types room test e
        → all ≡ first ++ word w.Do line ∷ (one ++ word w.While line' ∷ punct p.OpenParen line'' ∷ (test ++ punct p.CloseParen line''' ∷ punct p.Semicolon line'''' ∷ []))
        → SpellsStmt types loops breaks (suc room) at all (s.do_of line annot a e) (first_line all ∷ starts)
    -- annotation "for" "(" first [expr] ";" [expr] ")" body
    for_of : {loops breaks : Bool} {room at line : ℕ} (line' line'' line''' : ℕ) {first begin test next one all : List Token} {annot : LoopAnnot} {i a : s.Stmt} {c n : Option e.Expr} {starts : List ℕ}
        → SpellsLoopAnnot types (suc room) at first annot → SpellsFirst types room begin i → SpellsOptional types room test c → SpellsOptional types room next n
        → SpellsBody types true true (suc room) (at + length first + length begin + length test + length next + 4) one a starts
        → all ≡ first ++ word w.For line ∷ punct p.OpenParen line' ∷ (begin ++ (test ++ punct p.Semicolon line'' ∷ (next ++ punct p.CloseParen line''' ∷ one)))
        → SpellsStmt types loops breaks (suc room) at all (s.for_of line annot i c n a) (first_line all ∷ starts)
    -- "switch" "(" expr ")" "{" {label | stmt} "}" (C11 6.8.4.2)
    switch : {loops breaks : Bool} {room at line : ℕ} (line' line'' line''' line'''' : ℕ) {test inside all : List Token} {e : e.Expr} {body : s.Stmts} {starts : List ℕ}
        → SpellsExpr types room test e → SpellsCases types loops room (at + length test + 4) inside body starts
        → begins_labelled body ≡ true → nat_le (defaults body) 1 ≡ true
        → all ≡ word w.Switch line ∷ punct p.OpenParen line' ∷ (test ++ punct p.CloseParen line'' ∷ punct p.OpenBrace line''' ∷ (inside ++ punct p.CloseBrace line'''' ∷ []))
        → SpellsStmt types loops breaks (suc room) at all (s.switch line e body) (line ∷ starts)
    -- jumps (C11 6.8.6)
    break : {loops breaks : Bool} {room at line : ℕ} (line' : ℕ) → breaks ≡ true
        → SpellsStmt types loops breaks room at (word w.Break line ∷ punct p.Semicolon line' ∷ []) (s.break line) (line ∷ [])
    continue : {loops breaks : Bool} {room at line : ℕ} (line' : ℕ) → loops ≡ true
        → SpellsStmt types loops breaks room at (word w.Continue line ∷ punct p.Semicolon line' ∷ []) (s.continue line) (line ∷ [])
    return_of : {loops breaks : Bool} {room at line : ℕ} (line' : ℕ) {value all : List Token} {a : Option e.Expr}
        → SpellsOptional types room value a
        → all ≡ word w.Return line ∷ (value ++ punct p.Semicolon line' ∷ []) → SpellsStmt types loops breaks room at all (s.return_of line a) (line ∷ [])
    -- "/*@" assertion "*/" (ACSL 2.4.1)
    assert : {loops breaks : Bool} {room at line : ℕ} (line' line'' : ℕ) {inside all : List Token} {a : r.Pred}
        → SpellsAssert types room inside a line
        → all ≡ annot_open line' ∷ (inside ++ annot_close line'' ∷ []) → SpellsStmt types loops breaks room at all (s.assert line a) (line' ∷ [])

  -- the body of an `if`, an `else` or a loop: a block, or a statement, which is one more form that is open
  pub data SpellsBody (types : Names) : (loops breaks : Bool) (room at : ℕ) → List Token → s.Stmt → (starts : List ℕ) → Type 0 where
    braces : {loops breaks : Bool} {room at line end : ℕ} {all : List Token} {body : s.Stmts} {starts : List ℕ}
        → SpellsBlock types loops breaks room at all line end body starts → SpellsBody types loops breaks room at all (s.block line body) (line ∷ starts)
    plain : {loops breaks : Bool} {room at : ℕ} {all : List Token} {a : s.Stmt} {starts : List ℕ}
        → is_block a ≡ false → SpellsStmt types loops breaks room at all a starts → SpellsBody types loops breaks (suc room) at all a starts

  -- "{" {declaration | stmt} "}", with the lines of the braces (C11 6.8.2)
  pub data SpellsBlock (types : Names) : (loops breaks : Bool) (room at : ℕ) → List Token → (line end : ℕ) → s.Stmts → (starts : List ℕ) → Type 0 where
    between : {loops breaks : Bool} {room at line end : ℕ} {inside all : List Token} {body : s.Stmts} {starts : List ℕ}
        → SpellsStmts types loops breaks room (suc at) inside body starts
        → all ≡ punct p.OpenBrace line ∷ (inside ++ punct p.CloseBrace end ∷ []) → SpellsBlock types loops breaks (suc room) at all line end body starts

  pub data SpellsStmts (types : Names) : (loops breaks : Bool) (room at : ℕ) → List Token → s.Stmts → (starts : List ℕ) → Type 0 where
    no_stmts : {loops breaks : Bool} {room at : ℕ} → SpellsStmts types loops breaks room at [] s.stop []
    stmt : {loops breaks : Bool} {room at : ℕ} {first rest all : List Token} {a : s.Stmt} {body : s.Stmts} {starts starts' : List ℕ}
        → SpellsStmt types loops breaks room at first a starts → SpellsStmts types loops breaks room (at + length first) rest body starts'
        → all ≡ first ++ rest → SpellsStmts types loops breaks room at all (s.more a body) (starts ++ starts')
    variables : {loops breaks : Bool} {room at : ℕ} {first rest all : List Token} {vs : List e.VarDecl} {body : s.Stmts} {starts : List ℕ}
        → SpellsVariables types room first vs → SpellsStmts types loops breaks room (at + length first) rest body starts
        → all ≡ first ++ rest → SpellsStmts types loops breaks room at all (s.more (s.locals (first_line first) vs) body) (first_line first ∷ starts)

  -- {"case" conditional ":" | "default" ":" | stmt}; labels are no statements
  pub data SpellsCases (types : Names) : (loops : Bool) (room at : ℕ) → List Token → s.Stmts → (starts : List ℕ) → Type 0 where
    no_cases : {loops : Bool} {room at : ℕ} → SpellsCases types loops room at [] s.stop []
    case_of : {loops : Bool} {room at line : ℕ} (line' : ℕ) {value rest all : List Token} {a : e.Expr} {body : s.Stmts} {starts : List ℕ}
        → SpellsCond types room value a → SpellsCases types loops room (at + length value + 2) rest body starts
        → all ≡ word w.Case line ∷ (value ++ punct p.Colon line' ∷ rest) → SpellsCases types loops room at all (s.more (s.case_of line a) body) starts
    default : {loops : Bool} {room at line : ℕ} (line' : ℕ) {rest : List Token} {body : s.Stmts} {starts : List ℕ}
        → SpellsCases types loops room (at + 2) rest body starts
        → SpellsCases types loops room at (word w.Default line ∷ punct p.Colon line' ∷ rest) (s.more (s.default line) body) starts
    behind : {loops : Bool} {room at : ℕ} {first rest all : List Token} {a : s.Stmt} {body : s.Stmts} {starts starts' : List ℕ}
        → SpellsStmt types loops true room at first a starts → SpellsCases types loops room (at + length first) rest body starts'
        → all ≡ first ++ rest → SpellsCases types loops room at all (s.more a body) (starts ++ starts')
