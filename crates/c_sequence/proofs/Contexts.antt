-- Conversions by the context around a full expression.
use Rattle.std.proofs.Common.{◌≡◌, Bool, true, false, cond, List, [], ◌∷◌, map, length, get_or, refl, sym, ap, ◌∙◌}
use Rattle.typed_prog.specs.declared.operators.Op.{Op}
use Rattle.typed_prog.specs.declared.tree.Value.{Value}
use Rattle.typed_prog.specs.declared.tree.ValueNode.TheVariants as value
use Rattle.typed_prog.specs.Tree as t
use Rattle.typed_prog.specs.View.{view_value, view_value_node}
use Rattle.typed_prog.proofs.Equations.{view_value_node-Apply}
use Rattle.c_sequence.specs.Sequence.{Plain, effects, node_effects, alone_by, is_of_context, sequenced, node_sequenced, context_sequenced}

seen : (x : Value) (o : Op) (vs : List Value) → x.node ≡ value.Apply o vs → view_value_node x.node ≡ t.apply o (t.values_of (map view_value vs))
seen x o vs is = ap view_value_node is ∙ view_value_node-Apply o vs

not_of_context : (p : Plain) (o : Op) (vs : t.Values) (alone : Bool) → is_of_context o ≡ false → context_sequenced p o vs alone ≡ alone
not_of_context p o t.stop alone other = refl
not_of_context p o (t.more v t.stop) alone other = ap (λ b. cond b (sequenced p v) alone) other
not_of_context p o (t.more v (t.more w ws)) alone other = refl

not_one : (p : Plain) (o : Op) (vs : List Value) (alone : Bool) → (length vs ≡ 1 → ⊥) → context_sequenced p o (t.values_of (map view_value vs)) alone ≡ alone
not_one p o [] alone other = refl
not_one p o (v ∷ []) alone other = absurd (other refl)
not_one p o (v ∷ w ∷ ws) alone other = refl

one : (p : Plain) (o : Op) (vs : List Value) (v : Value) (alone : Bool) → is_of_context o ≡ true → length vs ≡ 1 → v ≡ get_or vs 0 v → context_sequenced p o (t.values_of (map view_value vs)) alone ≡ sequenced p (view_value v)
one p o [] v alone context single is = cc
one p o (w ∷ []) v alone context single is = ap (λ b. cond b (sequenced p (view_value w)) alone) context ∙ ap (λ u. sequenced p (view_value u)) (sym is)
one p o (w ∷ u ∷ us) v alone context single is = cc

alone_is : (p : Plain) (x : Value) (n : t.ValueNode) → view_value_node x.node ≡ n → alone_by p (view_value x) (effects (view_value x)) ≡ alone_by p (t.typed n x.ty x.line) (node_effects n)
alone_is p x n is = ap (λ m. alone_by p (t.typed m x.ty x.line) (node_effects m)) is

by_node : (p : Plain) (x : Value) (n : t.ValueNode) → view_value_node x.node ≡ n → node_sequenced p n x.ty x.line ≡ sequenced p (view_value x)
by_node p x n is = ap (λ m. node_sequenced p m x.ty x.line) (sym is)

pub other_operator : (p : Plain) (x : Value) (o : Op) (vs : List Value) (b : Bool) → x.node ≡ value.Apply o vs → is_of_context o ≡ false → b ≡ alone_by p (view_value x) (effects (view_value x)) → b ≡ sequenced p (view_value x)
other_operator p x o vs b is other made =
    let n : t.ValueNode = t.apply o (t.values_of (map view_value vs)) in
    made ∙ alone_is p x n (seen x o vs is) ∙ sym (not_of_context p o (t.values_of (map view_value vs)) (alone_by p (t.typed n x.ty x.line) (node_effects n)) other) ∙ by_node p x n (seen x o vs is)

pub other_number : (p : Plain) (x : Value) (o : Op) (vs : List Value) (b : Bool) → x.node ≡ value.Apply o vs → (length vs ≡ 1 → ⊥) → b ≡ alone_by p (view_value x) (effects (view_value x)) → b ≡ sequenced p (view_value x)
other_number p x o vs b is other made =
    let n : t.ValueNode = t.apply o (t.values_of (map view_value vs)) in
    made ∙ alone_is p x n (seen x o vs is) ∙ sym (not_one p o vs (alone_by p (t.typed n x.ty x.line) (node_effects n)) other) ∙ by_node p x n (seen x o vs is)

pub inside_context : (p : Plain) (x : Value) (o : Op) (vs : List Value) (v : Value) (b : Bool) → x.node ≡ value.Apply o vs → is_of_context o ≡ true → length vs ≡ 1 → v ≡ get_or vs 0 v → b ≡ sequenced p (view_value v) → b ≡ sequenced p (view_value x)
inside_context p x o vs v b is context single at made =
    let n : t.ValueNode = t.apply o (t.values_of (map view_value vs)) in
    made ∙ sym (one p o vs v (alone_by p (t.typed n x.ty x.line) (node_effects n)) context single at) ∙ by_node p x n (seen x o vs is)

pub ruleset context_laws = (other_operator, other_number, inside_context)
