-- What tells whether a value is an address: the operand that is looked at next.
use Rattle.std.specs.Prelude.{Bool, true, false, ◌&&◌, List, Option, Some, None, slice_get}
use Rattle.typed_prog.specs.declared.operators.Op.{Op}
use Rattle.typed_prog.specs.declared.operators.Op.TheVariants as op
use Rattle.typed_prog.specs.declared.tree.Value.{Value}
use Rattle.typed_prog.specs.Tree as t
use Rattle.typed_prog.specs.View.{view_value}
use Rattle.c_decls.specs.Constants.{is_number, is_part_of_file, is_address}
use Rattle.c_decls.specs.declared.constants.Reach.{Reach}
use Rattle.c_decls.specs.declared.constants.Reach.TheVariants as reach

abbrev pub is_address_there : (or_null : Bool) → Option Value → Bool
is_address_there or_null None = false
is_address_there or_null (Some v) = is_address or_null (view_value v)

abbrev pub is_number_there : Option Value → Bool
is_number_there None = false
is_number_there (Some v) = is_number (view_value v)

abbrev pub beside_number : (index pointer : Option Value) → Bool
beside_number index pointer = is_number_there index && is_address_there false pointer

abbrev pub reached : (operands : List Value) → Reach → Bool
reached vs (reach.Known answer) = answer
reached vs (reach.Operand or_null n) = is_address_there or_null (slice_get vs n)

-- ---- operators over operands

-- the only operand
abbrev pub is_address_alone : (or_null : Bool) → t.Values → Bool
is_address_alone or_null t.stop = false
is_address_alone or_null (t.more v t.stop) = is_address or_null v
is_address_alone or_null (t.more v (t.more w vs)) = false

-- one of two operands, where the other one is a number
abbrev pub is_address_moved : (index_first : Bool) → t.Values → Bool
is_address_moved index_first t.stop = false
is_address_moved index_first (t.more v t.stop) = false
is_address_moved false (t.more v (t.more w t.stop)) = is_number w && is_address false v
is_address_moved true (t.more v (t.more w t.stop)) = is_number v && is_address false w
is_address_moved index_first (t.more v (t.more w (t.more u vs))) = false

abbrev pub is_address_applied : (or_null : Bool) → Op → t.Values → Bool
is_address_applied or_null (op.Address path accessed) vs = is_part_of_file path vs
is_address_applied or_null (op.Decay path accessed) vs = is_part_of_file path vs
is_address_applied or_null op.Requalify vs = is_address_alone or_null vs
is_address_applied or_null (op.Offset minus index_first size accessed) vs = is_address_moved index_first vs
is_address_applied or_null _ vs = false
