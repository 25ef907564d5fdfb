-- Statements as plain trees (C11 6.8). Each has the line of its keyword.
use Rattle.std.specs.Prelude.{ℕ, List, [], ◌∷◌, Option, Some, None}
use Rattle.c_syntax.specs.Expr.{Expr, VarDecl}
use Rattle.c_syntax.specs.Pred.{Pred}
use Rattle.c_syntax.specs.Contract.{LoopAnnot}

mutual
  pub data Stmt : Type 0 where
    empty : (line : ℕ) → Stmt
    expr : (line : ℕ) (e : Expr) → Stmt
    block : (line : ℕ) (body : Stmts) → Stmt
    locals : (line : ℕ) (vars : List VarDecl) → Stmt
    if_only : (line : ℕ) (test : Expr) (then_s : Stmt) → Stmt
    if_else : (line : ℕ) (test : Expr) (then_s else_s : Stmt) → Stmt
    while_of : (line : ℕ) (annot : LoopAnnot) (test : Expr) (body : Stmt) → Stmt
    do_of : (line : ℕ) (annot : LoopAnnot) (body : Stmt) (test : Expr) → Stmt
    for_of : (line : ℕ) (annot : LoopAnnot) (first : Stmt) (test next : Option Expr) (body : Stmt) → Stmt
    switch : (line : ℕ) (e : Expr) (body : Stmts) → Stmt
    case_of : (line : ℕ) (value : Expr) → Stmt
    default : (line : ℕ) → Stmt
    break : (line : ℕ) → Stmt
    continue : (line : ℕ) → Stmt
    return_of : (line : ℕ) (value : Option Expr) → Stmt
    assert : (line : ℕ) (p : Pred) → Stmt

  pub data Stmts : Type 0 where
    stop : Stmts
    more : Stmt → Stmts → Stmts

-- a list of statements as the body of a block, and back
abbrev pub stmts_of : List Stmt → Stmts
stmts_of [] = stop
stmts_of (s ∷ ss) = more s (stmts_of ss)

abbrev pub list_of : Stmts → List Stmt
list_of stop = []
list_of (more s ss) = s ∷ list_of ss

-- an `if` with what stands behind `else`, if anything does
abbrev pub if_of : (line : ℕ) (test : Expr) (then_s : Stmt) (else_s : Option Stmt) → Stmt
if_of line test then_s None = if_only line test then_s
if_of line test then_s (Some else_s) = if_else line test then_s else_s
