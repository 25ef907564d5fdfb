-- What typing makes of an integer constant expression (C11 6.6p6).
use Rattle.std.specs.Prelude.{◌≡◌, true, Some, Ok}
use Rattle.c_syntax.specs.Expr as e
use Rattle.c_kinds.specs.declared.models.Machdep.{Machdep}
use Rattle.c_machine.specs.declared.rules.Constant.{Constant}
use Rattle.c_machine.specs.Constants.{constant_of}
use Rattle.typed_prog.specs.Tree as t
use Rattle.c_operands.specs.Operands.{Operand, object, value}
use Rattle.c_operands.specs.Conversions.{number_of, kind_of_value}
use Rattle.c_exprs.specs.Typing.{Around, typed}
use Rattle.c_folded.specs.Evaluated.{State, evaluated}

-- A typed expression is this constant: of its kind, a number exactly where the constant has a value, and that number; and whatever variables hold, it
-- evaluates to this value.
pub record IsConstant (m : Machdep) (k : Constant) (v : t.Value) : Type 0 where
  pub of_kind : kind_of_value v ≡ Some k.kind
  pub number : number_of v ≡ k.value
  pub evaluates : (s : State) → evaluated m s v ≡ k.value

-- it counts as an integer constant expression, and is this one
abbrev pub IsFolded : Machdep → Constant → Operand → Type 0
IsFolded m k (object place is_const) = ⊥
IsFolded m k (value v is_constant) = (is_constant ≡ true) × IsConstant m k v

-- Whatever is declared: what the rules of constant expressions give is what typing gives.
abbrev pub ConstantsAreFolded : Type 0
ConstantsAreFolded = (c : Around) (a : e.Expr) (k : Constant) (o : Operand) → constant_of c.model a ≡ Some k → typed c a ≡ Ok o → IsFolded c.model k o
