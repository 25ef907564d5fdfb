-- Each node of a typed expression has the type that its parts give it (C11 6.5).
use Rattle.std.specs.Prelude.{◌≡◌, IsTrue, List, [], ◌∷◌, Ok}
use Rattle.wp_base.specs.declared.kinds.Kind.TheVariants as kind
use Rattle.c_syntax.specs.Expr as e
use Rattle.typed_prog.specs.declared.types.CoreType.{CoreType}
use Rattle.typed_prog.specs.Types.{of_kind, is_pointer}
use Rattle.typed_prog.specs.Tree as t
use Rattle.c_operands.specs.Operands.{Operand, object, value}
use Rattle.c_exprs.specs.Typing.{Around, typed}
use Rattle.c_well_typed.specs.Paths.{object as object_of, IsInteger, Reaches}
use Rattle.c_well_typed.specs.Operators.{IsScalar, OpFits, EffectFits}

abbrev pub types_of : t.Values → List CoreType
types_of t.stop = []
types_of (t.more v vs) = t.type_of v ∷ types_of vs

abbrev mutual
  pub ValueFits : Around → t.Value → Type 0
  ValueFits c (t.typed node type line) = NodeFits c node type

  pub NodeFits : Around → t.ValueNode → CoreType → Type 0
  -- a constant is an integer (6.4.4.1), and null a pointer (6.3.2.3p3)
  NodeFits c (t.constant z) type = IsInteger type
  NodeFits c t.null type = IsTrue (is_pointer type)
  -- a typed program has none
  NodeFits c (t.temporary number) type = ⊥
  NodeFits c (t.apply o operands) type = ValuesFit c operands × OpFits c o (types_of operands) type
  -- `&&` and `||` (6.5.13, 6.5.14)
  NodeFits c (t.logic how a b) type = ValueFits c a × ValueFits c b × IsScalar (t.type_of a) × IsScalar (t.type_of b) × (type ≡ of_kind kind.Int)
  -- both arms of `?:` have the type of the whole (6.5.15)
  NodeFits c (t.choose test a b) type =
      ValueFits c test × ValueFits c a × ValueFits c b × IsScalar (t.type_of test) × (t.type_of a ≡ type) × (t.type_of b ≡ type)
  NodeFits c (t.effect does operands) type = ValuesFit c operands × EffectFits c does (types_of operands) type

  pub ValuesFit : Around → t.Values → Type 0
  ValuesFit c t.stop = Unit {0}
  ValuesFit c (t.more v vs) = ValueFits c v × ValuesFit c vs

-- an object is the one that its path reaches; a value fits
abbrev pub OperandFits : Around → Operand → Type 0
OperandFits c (object p is_const) = ValuesFit c (t.values_of p.operands) × Reaches c (types_of (t.values_of p.operands)) p.path (object_of p.type is_const)
OperandFits c (value v is_constant) = ValueFits c v

-- What is typed fits, whatever is declared around it.
abbrev pub TypedExpressionsFit : Type 0
TypedExpressionsFit = (c : Around) (a : e.Expr) (x : Operand) → typed c a ≡ Ok x → OperandFits c x
