-- Statements whose expressions are typed, as plain trees (C11 6.8). Each has the line of its keyword.
use Rattle.std.specs.Prelude.{ℕ, ℤ, List, [], ◌∷◌, Option}
use Rattle.c_syntax.specs.Pred.{Pred}
use Rattle.c_syntax.specs.Contract.{LoopAnnot}
use Rattle.typed_prog.specs.Tree.{Value}

-- what a loop evaluates before each turn, after it, and behind that
pub record Turns : Type 0 where
  pub before : Option Value
  pub behind : Option Value
  pub step : Option Value

-- a declared local, by its number among those of the function
pub record Declared : Type 0 where
  pub local : ℕ
  pub init : Option Value
  pub line : ℕ

mutual
  pub data Stmt : Type 0 where
    empty : (line : ℕ) → Stmt
    expr : (line : ℕ) (v : Value) → Stmt
    block : (line : ℕ) (body : Stmts) → Stmt
    locals : (line : ℕ) (vars : List Declared) → Stmt
    if_else : (line : ℕ) (test : Value) (then_s else_s : Stmt) → Stmt
    loop_of : (line : ℕ) (annot : LoopAnnot) (turns : Turns) (body : Stmt) → Stmt
    switch : (line : ℕ) (v : Value) (body : Stmts) → Stmt
    case_of : (line : ℕ) (number : ℤ) → Stmt
    default : (line : ℕ) → Stmt
    break : (line : ℕ) → Stmt
    continue : (line : ℕ) → Stmt
    return_of : (line : ℕ) (v : Option Value) → Stmt
    assert : (line : ℕ) (p : Pred) → Stmt

  pub data Stmts : Type 0 where
    stop : Stmts
    more : Stmt → Stmts → Stmts

-- a list of statements as the body of a block
abbrev pub stmts_of : List Stmt → Stmts
stmts_of [] = stop
stmts_of (s ∷ ss) = more s (stmts_of ss)
