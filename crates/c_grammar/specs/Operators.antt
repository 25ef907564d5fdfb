-- Which punctuators are which operators, and how tightly they bind.
use Rattle.std.specs.Prelude.{ℕ, Bool, true, false, if◌then◌else◌, List, [], ◌∷◌, Option, Some, None}
use Rattle.std.specs.List.{list_all}
use Rattle.c_syntax.specs.declared.token.Punct.{Punct}
use Rattle.c_syntax.specs.declared.token.Punct.TheVariants as p
use Rattle.c_syntax.specs.declared.expr.UnOp.{UnOp}
use Rattle.c_syntax.specs.declared.expr.UnOp.TheVariants as u
use Rattle.c_syntax.specs.declared.expr.BinOp.{BinOp}
use Rattle.c_syntax.specs.declared.expr.BinOp.TheVariants as o

-- before an operand (C11 6.5.3)
abbrev pub unop_of : Punct → Option UnOp
unop_of p.Amp = Some u.AddressOf
unop_of p.Star = Some u.Deref
unop_of p.Plus = Some u.Plus
unop_of p.Minus = Some u.Minus
unop_of p.Tilde = Some u.BitNot
unop_of p.Not = Some u.Not
unop_of _ = None

-- `++` and `--`: whether it counts up (C11 6.5.2.4, 6.5.3.1)
abbrev pub step_of : Punct → Option Bool
step_of p.Increment = Some true
step_of p.Decrement = Some false
step_of _ = None

-- between two operands (C11 6.5.5 to 6.5.14)
abbrev pub binop_of : Punct → Option BinOp
binop_of p.Star = Some o.Mul
binop_of p.Slash = Some o.Div
binop_of p.Percent = Some o.Rem
binop_of p.Plus = Some o.Add
binop_of p.Minus = Some o.Sub
binop_of p.Shl = Some o.Shl
binop_of p.Shr = Some o.Shr
binop_of p.Less = Some o.Less
binop_of p.AtMost = Some o.AtMost
binop_of p.Greater = Some o.Greater
binop_of p.AtLeast = Some o.AtLeast
binop_of p.Equal = Some o.Equal
binop_of p.NotEqual = Some o.NotEqual
binop_of p.Amp = Some o.BitAnd
binop_of p.Caret = Some o.BitXor
binop_of p.Bar = Some o.BitOr
binop_of p.And = Some o.And
binop_of p.Or = Some o.Or
binop_of _ = None

-- their levels, from the tightest
abbrev pub level : BinOp → ℕ
level o.Mul = 1
level o.Div = 1
level o.Rem = 1
level o.Add = 2
level o.Sub = 2
level o.Shl = 3
level o.Shr = 3
level o.Less = 4
level o.AtMost = 4
level o.Greater = 4
level o.AtLeast = 4
level o.Equal = 5
level o.NotEqual = 5
level o.BitAnd = 6
level o.BitXor = 7
level o.BitOr = 8
level o.And = 9
level o.Or = 10

-- the loosest of these levels, and that of the shifts
abbrev pub loosest : ℕ
loosest = 10

abbrev pub shift_level : ℕ
shift_level = 3

-- of assignments: none for `=`, else the operator of a compound one (C11 6.5.16)
abbrev pub assign_of : Punct → Option (Option BinOp)
assign_of p.Assign = Some None
assign_of p.MulAssign = Some (Some o.Mul)
assign_of p.DivAssign = Some (Some o.Div)
assign_of p.RemAssign = Some (Some o.Rem)
assign_of p.AddAssign = Some (Some o.Add)
assign_of p.SubAssign = Some (Some o.Sub)
assign_of p.ShlAssign = Some (Some o.Shl)
assign_of p.ShrAssign = Some (Some o.Shr)
assign_of p.BitAndAssign = Some (Some o.BitAnd)
assign_of p.BitXorAssign = Some (Some o.BitXor)
assign_of p.BitOrAssign = Some (Some o.BitOr)
assign_of _ = None

-- `.` and `->`: whether it is the arrow (C11 6.5.2.3)
abbrev pub field_of : Punct → Option Bool
field_of p.Dot = Some false
field_of p.Arrow = Some true
field_of _ = None

-- the comparisons
abbrev pub comparison_of : Punct → Option BinOp
comparison_of p.Less = Some o.Less
comparison_of p.AtMost = Some o.AtMost
comparison_of p.Greater = Some o.Greater
comparison_of p.AtLeast = Some o.AtLeast
comparison_of p.Equal = Some o.Equal
comparison_of p.NotEqual = Some o.NotEqual
comparison_of _ = None

abbrev pub goes_up : BinOp → Bool
goes_up o.Less = true
goes_up o.AtMost = true
goes_up o.Equal = true
goes_up _ = false

abbrev pub goes_down : BinOp → Bool
goes_down o.Greater = true
goes_down o.AtLeast = true
goes_down o.Equal = true
goes_down _ = false

-- Whether these stand in one chain of comparisons: all upwards, all downwards, or `!=` alone (ACSL 2.2.1).
abbrev pub is_chain : List BinOp → Bool
is_chain [] = false
is_chain (o.NotEqual ∷ []) = true
is_chain (first ∷ rest) = if list_all goes_up (first ∷ rest) then true else list_all goes_down (first ∷ rest)

-- the connectives of predicates that group to the left, by level, from the tightest (ACSL 2.2.1)
pub data Connective : Type 0 where
  both : Connective
  one_of : Connective
  either : Connective

abbrev pub connective_of : Punct → Option Connective
connective_of p.And = Some both
connective_of p.Xor = Some one_of
connective_of p.Or = Some either
connective_of _ = None

abbrev pub connective_level : Connective → ℕ
connective_level both = 1
connective_level one_of = 2
connective_level either = 3
