-- The plain trees of expressions in memory.
use Rattle.std.specs.Prelude.{List, map}
use Rattle.typed_prog.specs.declared.tree.Value.{Value, Value-F}
use Rattle.typed_prog.specs.declared.tree.ValueNode.{ValueNode, ValueNode-F, fold-ValueNode}
use Rattle.typed_prog.specs.Tree as t

abbrev pub value_node_layer : ValueNode-F t.ValueNode t.Value → t.ValueNode
value_node_layer (ValueNode-F.Constant z) = t.constant z
value_node_layer ValueNode-F.Null = t.null
value_node_layer (ValueNode-F.Temporary number) = t.temporary number
value_node_layer (ValueNode-F.Apply op operands) = t.apply op (t.values_of operands)
value_node_layer (ValueNode-F.Logic how first second) = t.logic how first second
value_node_layer (ValueNode-F.Choose test first second) = t.choose test first second
value_node_layer (ValueNode-F.Effect does operands) = t.effect does (t.values_of operands)

abbrev pub value_layer : Value-F t.ValueNode t.Value → t.Value
value_layer x = t.typed x.node x.ty x.line

unfoldable pub view_value_node : ValueNode → t.ValueNode
view_value_node = fold-ValueNode t.ValueNode t.Value value_node_layer value_layer

abbrev pub view_value : Value → t.Value
view_value x = t.typed (view_value_node x.node) x.ty x.line

abbrev pub view_values : List Value → List t.Value
view_values vs = map view_value vs
