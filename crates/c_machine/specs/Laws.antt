-- What is so of constants, in other words than those of the definition.
use Rattle.std.specs.Prelude.{◌≡◌, true, ℤ, Option, Some}
use Rattle.wp_base.specs.declared.kinds.Kind.{Kind}
use Rattle.c_syntax.specs.Expr as e
use Rattle.c_kinds.specs.declared.models.Machdep.{Machdep}
use Rattle.c_kinds.specs.Models.{holds}
use Rattle.c_machine.specs.declared.rules.Constant.{Constant}
use Rattle.c_machine.specs.Rules.{constant}
use Rattle.c_machine.specs.Constants.{constant_of}
use Rattle.c_machine.specs.Evaluates.{IsConstant, Evaluates}

-- The function and the rules say the same: it gives a kind exactly where the expression is an integer constant expression of this kind, and a value exactly
-- where the expression evaluates to it.
pub record FollowsTheRules (m : Machdep) (a : e.Expr) : Type 0 where
  pub constant_where_given : (c : Constant) → constant_of m a ≡ Some c → IsConstant m a c.kind
  pub given_where_constant : (k : Kind) → IsConstant m a k → (v : Option ℤ) × (constant_of m a ≡ Some (constant k v))
  pub value_where_given : (k : Kind) (z : ℤ) → constant_of m a ≡ Some (constant k (Some z)) → Evaluates m a k z
  pub given_where_value : (k : Kind) (z : ℤ) → Evaluates m a k z → constant_of m a ≡ Some (constant k (Some z))

abbrev pub ConstantsFollowTheRules : Type 0
ConstantsFollowTheRules = (m : Machdep) (a : e.Expr) → FollowsTheRules m a

-- a value is a number of the constant's kind (C11 6.6p4)
abbrev pub ValuesAreOfTheirKind : Type 0
ValuesAreOfTheirKind = (m : Machdep) (a : e.Expr) (k : Kind) (z : ℤ) → constant_of m a ≡ Some (constant k (Some z)) → holds m k z ≡ true
