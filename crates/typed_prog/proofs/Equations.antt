-- The plain tree of an expression, by its variant.
use Rattle.std.proofs.Common.{◌≡◌, ℕ, ℤ, List, map, ap, sym, ◌∙◌}
use Rattle.typed_prog.specs.declared.operators.Connective.{Connective}
use Rattle.typed_prog.specs.declared.operators.Op.{Op}
use Rattle.typed_prog.specs.declared.operators.Effect.{Effect}
use Rattle.typed_prog.specs.declared.tree.ValueNode.{ValueNode-F, fold-roll-ValueNode}
use Rattle.typed_prog.specs.declared.tree.ValueNode.TheVariants as value
use Rattle.typed_prog.specs.declared.tree.Value.{Value, fold-Value, fold-roll-Value, out-Value, roll-out-Value}
use Rattle.typed_prog.specs.Tree as t
use Rattle.typed_prog.specs.View.{view_value_node, view_value, value_node_layer, value_layer}

abbrev fold_value : Value → t.Value
fold_value = fold-Value t.ValueNode t.Value value_node_layer value_layer

value_whole : (x : Value) → fold_value x ≡ view_value x
unfolding view_value_node
value_whole x = ap fold_value (sym (roll-out-Value x)) ∙ fold-roll-Value t.ValueNode t.Value value_node_layer value_layer (out-Value x)

pub view_value_node-Constant : (z : ℤ) → view_value_node (value.Constant z) ≡ t.constant z
unfolding view_value_node
view_value_node-Constant z = ap view_value_node (sym (value.rolls-Constant z)) ∙ fold-roll-ValueNode t.ValueNode t.Value value_node_layer value_layer (ValueNode-F.Constant z)

pub view_value_node-Null : view_value_node value.Null ≡ t.null
unfolding view_value_node
view_value_node-Null = ap view_value_node (sym value.rolls-Null) ∙ fold-roll-ValueNode t.ValueNode t.Value value_node_layer value_layer ValueNode-F.Null

pub view_value_node-Temporary : (number : ℕ) → view_value_node (value.Temporary number) ≡ t.temporary number
unfolding view_value_node
view_value_node-Temporary number = ap view_value_node (sym (value.rolls-Temporary number)) ∙ fold-roll-ValueNode t.ValueNode t.Value value_node_layer value_layer (ValueNode-F.Temporary number)

pub view_value_node-Apply : (op : Op) (operands : List Value) → view_value_node (value.Apply op operands) ≡ t.apply op (t.values_of (map view_value operands))
unfolding view_value_node
view_value_node-Apply op operands = ap view_value_node (sym (value.rolls-Apply op operands)) ∙ fold-roll-ValueNode t.ValueNode t.Value value_node_layer value_layer (ValueNode-F.Apply op operands) ∙ (λ i. t.apply op (t.values_of (map (λ x. value_whole x i) operands)))

pub view_value_node-Logic : (how : Connective) (first : Value) (second : Value) → view_value_node (value.Logic how first second) ≡ t.logic how (view_value first) (view_value second)
unfolding view_value_node
view_value_node-Logic how first second = ap view_value_node (sym (value.rolls-Logic how first second)) ∙ fold-roll-ValueNode t.ValueNode t.Value value_node_layer value_layer (ValueNode-F.Logic how first second) ∙ (λ i. t.logic how (value_whole first i) (value_whole second i))

pub view_value_node-Choose : (test : Value) (first : Value) (second : Value) → view_value_node (value.Choose test first second) ≡ t.choose (view_value test) (view_value first) (view_value second)
unfolding view_value_node
view_value_node-Choose test first second = ap view_value_node (sym (value.rolls-Choose test first second)) ∙ fold-roll-ValueNode t.ValueNode t.Value value_node_layer value_layer (ValueNode-F.Choose test first second) ∙ (λ i. t.choose (value_whole test i) (value_whole first i) (value_whole second i))

pub view_value_node-Effect : (does : Effect) (operands : List Value) → view_value_node (value.Effect does operands) ≡ t.effect does (t.values_of (map view_value operands))
unfolding view_value_node
view_value_node-Effect does operands = ap view_value_node (sym (value.rolls-Effect does operands)) ∙ fold-roll-ValueNode t.ValueNode t.Value value_node_layer value_layer (ValueNode-F.Effect does operands) ∙ (λ i. t.effect does (t.values_of (map (λ x. value_whole x i) operands)))

pub ruleset view_laws = (view_value_node-Constant, view_value_node-Null, view_value_node-Temporary, view_value_node-Apply, view_value_node-Logic, view_value_node-Choose, view_value_node-Effect)
