-- Declarations as plain trees (C11 6.7, 6.9; ACSL 2.6). Each has the line of the name that it declares.
use Rattle.std.specs.Prelude.{ℕ, List, Option}
use Rattle.c_syntax.specs.Expr.{CType, VarDecl}
use Rattle.c_syntax.specs.Term.{Term}
use Rattle.c_syntax.specs.Pred.{Pred}
use Rattle.c_syntax.specs.Contract.{Contract}
use Rattle.c_syntax.specs.Stmt.{Stmt}

pub record StructDecl : Type 0 where
  pub name : List ℕ
  pub fields : List VarDecl
  pub line : ℕ

pub record EnumDecl : Type 0 where
  pub name : Option (List ℕ)
  pub items : List VarDecl
  pub line : ℕ

-- `end` is the line of the last token; a prototype has no body
pub record Function : Type 0 where
  pub name : List ℕ
  pub result : CType
  pub params : List VarDecl
  pub contract : Contract
  pub body : Option Stmt
  pub line : ℕ
  pub end : ℕ

pub data LogicBody : Type 0 where
  term : (t : Term) → LogicBody
  pred : (p : Pred) → LogicBody

-- a predicate has no result
pub record LogicDecl : Type 0 where
  pub name : List ℕ
  pub result : Option CType
  pub params : List VarDecl
  pub body : LogicBody
  pub line : ℕ

pub data Decl : Type 0 where
  struct_decl : (d : StructDecl) → Decl
  enum_decl : (d : EnumDecl) → Decl
  typedef_decl : (d : VarDecl) → Decl
  globals : (ds : List VarDecl) → Decl
  function : (f : Function) → Decl
  logic_decl : (d : LogicDecl) → Decl

-- its declarations, in order
abbrev pub Program : Type 0
Program = List Decl
