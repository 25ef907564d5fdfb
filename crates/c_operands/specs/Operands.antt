-- Typed expressions as operands: objects, and values (C11 6.3.2.1).
use Rattle.std.specs.Prelude.{ℕ, ℤ, Bool, true, false, List, [], ◌∷◌, map, Option, Some, None, Ok, Err}
use Rattle.wp_base.specs.declared.kinds.Kind.{Kind}
use Rattle.c_answers.specs.Answers.{Answer, wrong}
use Rattle.typed_prog.specs.declared.types.Base.{Base}
use Rattle.typed_prog.specs.declared.types.Base.TheVariants as base
use Rattle.typed_prog.specs.declared.types.CoreType.{CoreType}
use Rattle.typed_prog.specs.declared.operators.Path.{Path}
use Rattle.typed_prog.specs.declared.operators.Op.{Op}
use Rattle.typed_prog.specs.declared.operators.Op.TheVariants as op
use Rattle.typed_prog.specs.Types.{of_kind, pointer_to}
use Rattle.typed_prog.specs.Tree as t
use Rattle.typed_prog.specs.View.{view_value, view_values}
use Rattle.c_operands.specs.declared.operands.Place.{Place as CodePlace}
use Rattle.c_operands.specs.declared.operands.Operand.{Operand as CodeOperand}
use Rattle.c_operands.specs.declared.operands.Operand.TheVariants as code
use Rattle.c_operands.specs.declared.operands.Rvalue.{Rvalue as CodeRvalue}

-- an object: the way to it, the operands of that way, and its type
pub record Place : Type 0 where
  pub path : Path
  pub operands : List t.Value
  pub type : CoreType

pub data Operand : Type 0 where
  -- an object, and whether it is constant
  object : (place : Place) (is_const : Bool) → Operand
  -- a value, and whether it is an integer constant expression (C11 6.6p6)
  value : (v : t.Value) (is_constant : Bool) → Operand

pub record Rvalue : Type 0 where
  pub value : t.Value
  pub is_constant : Bool

abbrev pub view_place : CodePlace → Place
view_place p = record { path = p.path; operands = view_values p.operands; type = p.ty }

abbrev pub view_operand : CodeOperand → Operand
view_operand (code.Object p is_const) = object (view_place p) is_const
view_operand (code.Value v is_constant) = value (view_value v) is_constant

abbrev pub view_rvalue : CodeRvalue → Rvalue
view_rvalue x = record { value = view_value x.value; is_constant = x.is_constant }

-- ---- the value of an operand

-- a value that is no integer constant expression
abbrev pub plain : t.Value → Rvalue
plain v = record { value = v; is_constant = false }

abbrev pub applied : Op → List t.Value → CoreType → (line : ℕ) → t.Value
applied o operands type line = t.typed (t.apply o (t.values_of operands)) type line

-- the value that an object holds (6.3.2.1p2)
abbrev pub was_read : Place → Rvalue
was_read p = plain (applied (op.Read p.path) p.operands p.type p.path.line)

-- a pointer to the first element of an array (6.3.2.1p3)
abbrev pub decayed : Place → (is_const : Bool) → Rvalue
decayed p is_const = plain (applied (op.Decay p.path false) p.operands (pointer_to p.type is_const) p.path.line)

-- of an object by its count, stars and root; no value is a struct
abbrev pub object_value : (line : ℕ) → Place → (is_const : Bool) → Option ℕ → List Bool → Base → Answer Rvalue
object_value line p is_const (Some n) stars root = Ok (decayed p is_const)
object_value line p is_const None [] (base.Struct n) = wrong line
object_value line p is_const None stars root = Ok (was_read p)

-- the value of an operand, for the operator on this line
unfoldable pub valued : (line : ℕ) → Operand → Answer Rvalue
valued line (object p is_const) = object_value line p is_const p.type.count p.type.stars p.type.base
valued line (value v is_constant) = Ok (record { value = v; is_constant = is_constant })

-- ---- whether a pointer is at once followed

abbrev pub op_followed : Bool → Op → Op
op_followed accessed (op.Address path was) = op.Address path accessed
op_followed accessed (op.Decay path was) = op.Decay path accessed
op_followed accessed (op.Offset minus index_first size was) = op.Offset minus index_first size accessed
op_followed accessed o = o

abbrev pub node_followed : Bool → t.ValueNode → t.ValueNode
node_followed accessed (t.apply o operands) = t.apply (op_followed accessed o) operands
node_followed accessed node = node

-- the same pointer, with a note whether `*` or `->` follows it at once
unfoldable pub followed : Bool → t.Value → t.Value
followed accessed (t.typed node type line) = t.typed (node_followed accessed node) type line
