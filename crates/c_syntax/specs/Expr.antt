-- Expressions and types as plain trees (C11 6.5, 6.7). Each expression has the line of its token or operator.
use Rattle.std.specs.Prelude.{ℕ, ℤ, Bool, List, [], ◌∷◌, Option}
use Rattle.wp_base.specs.declared.kinds.Kind.{Kind}
use Rattle.c_syntax.specs.declared.token.Token.{Token}
use Rattle.c_syntax.specs.declared.expr.UnOp.{UnOp}
use Rattle.c_syntax.specs.declared.expr.BinOp.{BinOp}

mutual
  pub data CType : Type 0 where
    void : CType
    kind : (k : Kind) → CType
    integer : CType
    struct_of : (name : List ℕ) → CType
    enum_of : (name : List ℕ) → CType
    named : (name : List ℕ) → CType
    pointer : (to : CType) → CType
    array : (of : CType) (length : Expr) → CType
    constant : (of : CType) → CType

  pub data Expr : Type 0 where
    number : (line : ℕ) (token : Token) → Expr
    char : (line : ℕ) (value : ℤ) → Expr
    name : (line : ℕ) (x : List ℕ) → Expr
    unary : (line : ℕ) (op : UnOp) (e : Expr) → Expr
    binary : (line : ℕ) (op : BinOp) (left right : Expr) → Expr
    cond : (line : ℕ) (test then_e else_e : Expr) → Expr
    -- `=`, or with an operator that of a compound assignment
    assign : (line : ℕ) (op : Option BinOp) (place value : Expr) → Expr
    -- `++` or `--`, before or behind its operand
    step : (line : ℕ) (up prefix : Bool) (place : Expr) → Expr
    call : (line : ℕ) (f : List ℕ) (args : Exprs) → Expr
    index : (line : ℕ) (base at : Expr) → Expr
    -- `.` or `->`
    field : (line : ℕ) (base : Expr) (f : List ℕ) (arrow : Bool) → Expr
    cast : (line : ℕ) (type : CType) (e : Expr) → Expr
    sizeof : (line : ℕ) (type : CType) → Expr

  pub data Exprs : Type 0 where
    stop : Exprs
    more : Expr → Exprs → Exprs

-- a list of expressions as the arguments of a call, and back
abbrev pub exprs_of : List Expr → Exprs
exprs_of [] = stop
exprs_of (e ∷ es) = more e (exprs_of es)

abbrev pub list_of : Exprs → List Expr
list_of stop = []
list_of (more e es) = e ∷ list_of es

-- a declared name: a variable, parameter, field, enumerator, typedef name or binder
pub record VarDecl : Type 0 where
  pub name : List ℕ
  pub ty : CType
  pub init : Option Expr
  pub line : ℕ
