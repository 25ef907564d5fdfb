-- Expressions as plain trees, each with its type and its line (C11 6.5).
use Rattle.std.specs.Prelude.{ℕ, ℤ, List, [], ◌∷◌}
use Rattle.typed_prog.specs.declared.types.CoreType.{CoreType}
use Rattle.typed_prog.specs.declared.operators.Connective.{Connective}
use Rattle.typed_prog.specs.declared.operators.Op.{Op}
use Rattle.typed_prog.specs.declared.operators.Effect.{Effect}

mutual
  pub data ValueNode : Type 0 where
    constant : (z : ℤ) → ValueNode
    null : ValueNode
    temporary : (number : ℕ) → ValueNode
    -- an operator that evaluates each operand
    apply : (op : Op) (operands : Values) → ValueNode
    logic : (how : Connective) (first second : Value) → ValueNode
    choose : (test first second : Value) → ValueNode
    effect : (does : Effect) (operands : Values) → ValueNode

  pub data Value : Type 0 where
    typed : (node : ValueNode) (type : CoreType) (line : ℕ) → Value

  pub data Values : Type 0 where
    stop : Values
    more : Value → Values → Values

-- a list of values as operands
abbrev pub values_of : List Value → Values
values_of [] = stop
values_of (v ∷ vs) = more v (values_of vs)

abbrev pub node_of : Value → ValueNode
node_of (typed node type line) = node

abbrev pub type_of : Value → CoreType
type_of (typed node type line) = type

abbrev pub line_of : Value → ℕ
line_of (typed node type line) = line
