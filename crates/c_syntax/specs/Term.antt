-- Terms as plain trees (ACSL 2.2). Each has the line of its token or operator.
use Rattle.std.specs.Prelude.{ℕ, ℤ, Bool, List, [], ◌∷◌}
use Rattle.c_syntax.specs.declared.token.Token.{Token}
use Rattle.c_syntax.specs.declared.expr.UnOp.{UnOp}
use Rattle.c_syntax.specs.declared.expr.BinOp.{BinOp}
use Rattle.c_syntax.specs.Expr.{CType}

mutual
  pub data Term : Type 0 where
    number : (line : ℕ) (token : Token) → Term
    char : (line : ℕ) (value : ℤ) → Term
    name : (line : ℕ) (x : List ℕ) → Term
    unary : (line : ℕ) (op : UnOp) (t : Term) → Term
    binary : (line : ℕ) (op : BinOp) (left right : Term) → Term
    cond : (line : ℕ) (test then_t else_t : Term) → Term
    call : (line : ℕ) (f : List ℕ) (args : Terms) → Term
    index : (line : ℕ) (base at : Term) → Term
    -- `.` or `->`
    field : (line : ℕ) (base : Term) (f : List ℕ) (arrow : Bool) → Term
    cast : (line : ℕ) (type : CType) (t : Term) → Term
    result : (line : ℕ) → Term
    old : (line : ℕ) (t : Term) → Term
    at_label : (line : ℕ) (t : Term) (label : List ℕ) → Term
    null : (line : ℕ) → Term
    -- `lo .. hi`, in a set of locations
    range : (line : ℕ) (lo hi : Term) → Term

  pub data Terms : Type 0 where
    stop : Terms
    more : Term → Terms → Terms

-- a list of terms as the arguments of a call, and back
abbrev pub terms_of : List Term → Terms
terms_of [] = stop
terms_of (t ∷ ts) = more t (terms_of ts)

abbrev pub list_of : Terms → List Term
list_of stop = []
list_of (more t ts) = t ∷ list_of ts
