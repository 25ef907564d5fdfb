-- Conditions that are made of jumps alone.
use Rattle.std.specs.Prelude.{Bool, true, false}
use Rattle.typed_prog.specs.Tree as t

abbrev pub is_connective_node : t.ValueNode → Bool
is_connective_node (t.logic how first second) = true
is_connective_node _ = false

-- `&&` or `||`
abbrev pub is_connective : t.Value → Bool
is_connective e = is_connective_node (t.node_of e)
