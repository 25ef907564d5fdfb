-- What is so of a full expression that is typed (C11 6.8p4): each node has the type that its parts give it, it spells the expression that was typed, it has
-- one result in every order that C allows, and the variables whose addresses it takes are named behind `&`.
use Rattle.std.specs.Prelude.{◌≡◌, ℕ, true, Option, Some, None, Ok}
use Rattle.wp_base.specs.declared.kinds.Kind.{Kind}
use Rattle.c_syntax.specs.Expr as e
use Rattle.c_kinds.specs.Conversions.{promote}
use Rattle.typed_prog.specs.declared.types.CoreType.{CoreType}
use Rattle.typed_prog.specs.Types.{of_kind}
use Rattle.typed_prog.specs.Tree as t
use Rattle.c_sequence.specs.Sequence.{sequenced}
use Rattle.c_taken.specs.Addressed.{addressed}
use Rattle.c_addressed.specs.Addressed.{TakesOnly}
use Rattle.c_variables.specs.declared.context.Context.{Context}
use Rattle.c_variables.specs.Contexts.{around_of, plain_in}
use Rattle.c_well_typed.specs.Operators.{IsScalar}
use Rattle.c_well_typed.specs.WellTyped.{ValueFits}
use Rattle.c_spelled_back.specs.Spelled.{ValueSpells}

pub record IsFull (c : Context) (a : e.Expr) (v : t.Value) : Type 0 where
  pub fits : ValueFits (around_of c) v
  pub spells : ValueSpells (around_of c) v a
  pub in_order : sequenced (plain_in c) v ≡ true
  pub addresses : TakesOnly (around_of c) (addressed a) v

-- a condition is a scalar (6.8.4.1p1, 6.8.5p2)
pub record IsTest (c : Context) (a : e.Expr) (v : t.Value) : Type 0 where
  pub full : IsFull c a v
  pub scalar : IsScalar (t.type_of v)

-- an initialiser has the type of the object, a returned value that of the result (6.7.9p11, 6.8.6.4p3)
pub record IsAssigned (c : Context) (type : CoreType) (a : e.Expr) (v : t.Value) : Type 0 where
  pub full : IsFull c a v
  pub same : t.type_of v ≡ type

-- the operand of a `switch` is a promoted integer (6.8.4.2p5)
pub record IsSwitched (c : Context) (a : e.Expr) (v : t.Value) : Type 0 where
  pub full : IsFull c a v
  pub of : Kind
  pub promoted : t.type_of v ≡ of_kind (promote of)

-- the same of an expression that may be left out
abbrev pub IfThere : (e.Expr → t.Value → Type 0) → Option e.Expr → Option t.Value → Type 0
IfThere Is None None = Unit {0}
IfThere Is (Some a) (Some v) = Is a v
IfThere Is None (Some v) = ⊥
IfThere Is (Some a) None = ⊥
