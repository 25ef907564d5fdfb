-- Predicates as plain trees (ACSL 2.2). Each has the line of its token or operator.
use Rattle.std.specs.Prelude.{ℕ, List}
use Rattle.c_syntax.specs.declared.expr.BinOp.{BinOp}
use Rattle.c_syntax.specs.Expr.{VarDecl}
use Rattle.c_syntax.specs.Term.{Term}

pub data Pred : Type 0 where
  always : (line : ℕ) → Pred
  never : (line : ℕ) → Pred
  not_of : (line : ℕ) (p : Pred) → Pred
  and_of : (line : ℕ) (left right : Pred) → Pred
  xor_of : (line : ℕ) (left right : Pred) → Pred
  or_of : (line : ℕ) (left right : Pred) → Pred
  implies : (line : ℕ) (left right : Pred) → Pred
  iff : (line : ℕ) (left right : Pred) → Pred
  cond : (line : ℕ) (test then_p else_p : Pred) → Pred
  let_in : (line : ℕ) (x : List ℕ) (value : Term) (p : Pred) → Pred
  -- the terms of a chain of comparisons, and what stands between them
  chain : (line : ℕ) (terms : List Term) (ops : List BinOp) → Pred
  for_all : (line : ℕ) (binders : List VarDecl) (p : Pred) → Pred
  for_some : (line : ℕ) (binders : List VarDecl) (p : Pred) → Pred
  valid : (line : ℕ) (pointer : Term) → Pred
  valid_read : (line : ℕ) (pointer : Term) → Pred
  separated : (line : ℕ) (pointers : List Term) → Pred
  old : (line : ℕ) (p : Pred) → Pred
  call : (line : ℕ) (f : List ℕ) (args : List Term) → Pred
