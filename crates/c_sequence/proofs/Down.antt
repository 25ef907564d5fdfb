-- The way down one operand: what was found beside it, and what stands around it, make the whole.
use Rattle.std.proofs.Common.{◌≡◌, Bool, true, false, ◌&&◌, ◌||◌, List, [], ◌∷◌, length, map, refl, sym, ap, ◌∙◌}
use Rattle.typed_prog.specs.declared.operators.Connective.{Connective}
use Rattle.typed_prog.specs.declared.operators.Op.{Op}
use Rattle.typed_prog.specs.declared.operators.Effect.{Effect}
use Rattle.typed_prog.specs.declared.tree.Value.{Value}
use Rattle.typed_prog.specs.declared.tree.ValueNode.TheVariants as value
use Rattle.typed_prog.specs.Tree as t
use Rattle.typed_prog.specs.View.{view_value, view_value_node}
use Rattle.typed_prog.proofs.Equations.{view_value_node-Apply, view_value_node-Logic, view_value_node-Choose, view_value_node-Effect}
use Rattle.c_sequence.specs.declared.found.Embedded.{Embedded}
use Rattle.c_sequence.specs.declared.found.Found.{Found}
use Rattle.c_sequence.specs.declared.found.Found.TheVariants as seen
use Rattle.c_sequence.specs.declared.summaries.Summary.{Summary}
use Rattle.c_sequence.specs.declared.frames.Around.{Around}
use Rattle.c_sequence.specs.Sequence.{Plain, and_also, embedded_in, node_effects, all_effects, quiet, beside, in_order, ended, through, at_effect, summary, node_summed, all_summed}
use Rattle.c_sequence.specs.Around.{whole, outside, beside_this, in_order_with, operator_of, effect_of}
use Rattle.c_sequence.proofs.Wholes.{whole-outside, whole-nothing, whole-beside, whole-in_order, whole-operator, whole-effect}

no_item : (vs : List Value) → length vs ≡ 0 → vs ≡ []
no_item [] empty = refl
no_item (v ∷ vs) empty = cc

-- ---- effects

and_also_assoc : (x y z : Found) → and_also (and_also x y) z ≡ and_also x (and_also y z)
and_also_assoc seen.Nothing y z = refl
and_also_assoc (seen.One e) seen.Nothing z = refl
and_also_assoc (seen.One e) (seen.One f) seen.Nothing = refl
and_also_assoc (seen.One e) (seen.One f) (seen.One g) = refl
and_also_assoc (seen.One e) (seen.One f) seen.Several = refl
and_also_assoc (seen.One e) seen.Several z = refl
and_also_assoc seen.Several y z = refl

and_also_swaps : (x y : Found) → and_also x y ≡ and_also y x
and_also_swaps seen.Nothing seen.Nothing = refl
and_also_swaps seen.Nothing (seen.One f) = refl
and_also_swaps seen.Nothing seen.Several = refl
and_also_swaps (seen.One e) seen.Nothing = refl
and_also_swaps (seen.One e) (seen.One f) = refl
and_also_swaps (seen.One e) seen.Several = refl
and_also_swaps seen.Several seen.Nothing = refl
and_also_swaps seen.Several (seen.One f) = refl
and_also_swaps seen.Several seen.Several = refl

-- the one found last stands in front of the others
last_first : (x y z : Found) → and_also (and_also x y) z ≡ and_also y (and_also x z)
last_first x y z = ap (λ u. and_also u z) (and_also_swaps x y) ∙ and_also_assoc y x z

pub effect_operands : (x : Value) (o : Op) (vs us : List Value) (v : Value) (others found behind all : Found) → x.node ≡ value.Apply o vs → vs ≡ v ∷ us
    → others ≡ all_effects (t.values_of (map view_value us)) → behind ≡ and_also others found
    → and_also (node_effects (view_value_node x.node)) found ≡ all → and_also (node_effects (view_value_node v.node)) behind ≡ all
effect_operands x o vs us v others found behind all is split of made so_far =
    ap (and_also (node_effects (view_value_node v.node))) (made ∙ ap (λ u. and_also u found) of) ∙ sym (and_also_assoc (node_effects (view_value_node v.node)) (all_effects (t.values_of (map view_value us))) found)
    ∙ ap (λ n. and_also (node_effects n) found) (sym (ap view_value_node is ∙ view_value_node-Apply o vs ∙ ap (λ ws. t.apply o (t.values_of (map view_value ws))) split)) ∙ so_far

pub effect_no_operand : (x : Value) (o : Op) (vs : List Value) (found all : Found) → x.node ≡ value.Apply o vs → length vs ≡ 0 → and_also (node_effects (view_value_node x.node)) found ≡ all → found ≡ all
effect_no_operand x o vs found all is empty so_far =
    ap (λ n. and_also (node_effects n) found) (sym (ap view_value_node is ∙ view_value_node-Apply o vs ∙ ap (λ ws. t.apply o (t.values_of (map view_value ws))) (no_item vs empty))) ∙ so_far

pub effect_logic : (x : Value) (how : Connective) (a b : Value) (second found behind all : Found) → x.node ≡ value.Logic how a b → second ≡ node_effects (view_value_node b.node) → behind ≡ and_also second found
    → and_also (node_effects (view_value_node x.node)) found ≡ all → and_also (node_effects (view_value_node a.node)) behind ≡ all
effect_logic x how a b second found behind all is of made so_far =
    ap (and_also (node_effects (view_value_node a.node))) (made ∙ ap (λ u. and_also u found) of) ∙ sym (and_also_assoc (node_effects (view_value_node a.node)) (node_effects (view_value_node b.node)) found)
    ∙ ap (λ n. and_also (node_effects n) found) (sym (ap view_value_node is ∙ view_value_node-Logic how a b)) ∙ so_far

pub effect_choice : (x : Value) (test a b : Value) (tested first before found behind all : Found) → x.node ≡ value.Choose test a b → tested ≡ node_effects (view_value_node test.node)
    → first ≡ node_effects (view_value_node a.node) → before ≡ and_also tested first → behind ≡ and_also before found
    → and_also (node_effects (view_value_node x.node)) found ≡ all → and_also (node_effects (view_value_node b.node)) behind ≡ all
effect_choice x test a b tested first before found behind all is of of' joined made so_far =
    let p : Found = node_effects (view_value_node test.node) in let q : Found = node_effects (view_value_node a.node) in let r : Found = node_effects (view_value_node b.node) in
    ap (and_also r) (made ∙ ap (λ u. and_also u found) (joined ∙ (λ i. and_also (of i) (of' i)))) ∙ sym (last_first (and_also p q) r found) ∙ ap (λ u. and_also u found) (and_also_assoc p q r)
    ∙ ap (λ n. and_also (node_effects n) found) (sym (ap view_value_node is ∙ view_value_node-Choose test a b)) ∙ so_far

pub effect_itself : (x : Value) (e : Effect) (vs us : List Value) (v : Value) (others found with_own behind all : Found) → x.node ≡ value.Effect e vs → vs ≡ v ∷ us
    → with_own ≡ and_also (seen.One (embedded_in e)) found → others ≡ all_effects (t.values_of (map view_value us)) → behind ≡ and_also others with_own
    → and_also (node_effects (view_value_node x.node)) found ≡ all → and_also (node_effects (view_value_node v.node)) behind ≡ all
effect_itself x e vs us v others found with_own behind all is split own of made so_far =
    let o : Found = seen.One (embedded_in e) in let p : Found = node_effects (view_value_node v.node) in let q : Found = all_effects (t.values_of (map view_value us)) in
    ap (and_also p) (made ∙ (λ i. and_also (of i) (own i))) ∙ sym (and_also_assoc p q (and_also o found)) ∙ sym (last_first o (and_also p q) found)
    ∙ ap (λ n. and_also (node_effects n) found) (sym (ap view_value_node is ∙ view_value_node-Effect e vs ∙ ap (λ ws. t.effect e (t.values_of (map view_value ws))) split)) ∙ so_far

pub effect_alone : (x : Value) (e : Effect) (vs : List Value) (found with_own all : Found) → x.node ≡ value.Effect e vs → length vs ≡ 0 → with_own ≡ and_also (seen.One (embedded_in e)) found
    → and_also (node_effects (view_value_node x.node)) found ≡ all → with_own ≡ all
effect_alone x e vs found with_own all is empty own so_far =
    own ∙ ap (λ n. and_also (node_effects n) found) (sym (ap view_value_node is ∙ view_value_node-Effect e vs ∙ ap (λ ws. t.effect e (t.values_of (map view_value ws))) (no_item vs empty))) ∙ so_far

pub ruleset effect_turns = (effect_operands, effect_no_operand, effect_logic, effect_choice, effect_itself, effect_alone)

-- ---- summaries

-- of three parts in order it is no matter which one is named first
or_turned : (s u r : Bool) → (s || (u || r)) ≡ (u || (r || s))
or_turned true true r = refl
or_turned true false true = refl
or_turned true false false = refl
or_turned false true r = refl
or_turned false false true = refl
or_turned false false false = refl

and_turned : (s u r : Bool) → (s && (u && r)) ≡ (u && (r && s))
and_turned true true true = refl
and_turned true true false = refl
and_turned true false r = refl
and_turned false true true = refl
and_turned false true false = refl
and_turned false false r = refl

in_order_turned : (s u r : Summary) → in_order s (in_order u r) ≡ in_order u (in_order r s)
in_order_turned s u r = λ i. summary (or_turned s.holds u.holds r.holds i) (and_turned s.reads u.reads r.reads i) (and_turned s.fine u.fine r.fine i) (or_turned s.pending u.pending r.pending i)

-- one more that stands around the part
one_more : (c d : Around) (x y z : Summary) → whole d x ≡ y → whole c y ≡ z → whole (outside c d) x ≡ z
one_more c d x y z inner outer = whole-outside c d x ∙ ap (whole c) inner ∙ outer

pub summed_operands : (p : Plain) (e : Embedded) (x : Value) (o : Op) (vs us : List Value) (v : Value) (others all : Summary) (c d f : Around) → x.node ≡ value.Apply o vs → vs ≡ v ∷ us
    → others ≡ all_summed p e (t.values_of (map view_value us)) → d ≡ outside c (operator_of p e o) → f ≡ outside d (beside_this others)
    → whole c (node_summed p e (view_value_node x.node)) ≡ all → whole f (node_summed p e (view_value_node v.node)) ≡ all
summed_operands p e x o vs us v others all c d f is split of first second so_far =
    let s : Summary = node_summed p e (view_value_node v.node) in let r : Summary = all_summed p e (t.values_of (map view_value us)) in
    ap (λ g. whole g s) (second ∙ (λ i. outside (first i) (beside_this (of i))))
    ∙ one_more (outside c (operator_of p e o)) (beside_this r) s (beside s r) all (whole-beside s r)
    (one_more c (operator_of p e o) (beside s r) (through p e o (beside s r)) all (whole-operator p e o (beside s r))
    (ap (λ n. whole c (node_summed p e n)) (sym (ap view_value_node is ∙ view_value_node-Apply o vs ∙ ap (λ ws. t.apply o (t.values_of (map view_value ws))) split)) ∙ so_far))

pub summed_no_operand : (p : Plain) (e : Embedded) (x : Value) (o : Op) (vs : List Value) (q r all : Summary) (c d : Around) → x.node ≡ value.Apply o vs → length vs ≡ 0 → d ≡ outside c (operator_of p e o)
    → q ≡ quiet → r ≡ whole d q → whole c (node_summed p e (view_value_node x.node)) ≡ all → r ≡ all
summed_no_operand p e x o vs q r all c d is empty first is_quiet made so_far =
    made ∙ (λ i. whole (first i) (is_quiet i)) ∙ one_more c (operator_of p e o) quiet (through p e o quiet) all (whole-operator p e o quiet)
    (ap (λ n. whole c (node_summed p e n)) (sym (ap view_value_node is ∙ view_value_node-Apply o vs ∙ ap (λ ws. t.apply o (t.values_of (map view_value ws))) (no_item vs empty))) ∙ so_far)

pub summed_logic : (p : Plain) (e : Embedded) (x : Value) (how : Connective) (a b : Value) (second all : Summary) (c d : Around) → x.node ≡ value.Logic how a b
    → second ≡ node_summed p e (view_value_node b.node) → d ≡ outside c (in_order_with second)
    → whole c (node_summed p e (view_value_node x.node)) ≡ all → whole d (node_summed p e (view_value_node a.node)) ≡ all
summed_logic p e x how a b second all c d is of made so_far =
    let s : Summary = node_summed p e (view_value_node a.node) in let r : Summary = node_summed p e (view_value_node b.node) in
    ap (λ g. whole g s) (made ∙ (λ i. outside c (in_order_with (of i)))) ∙ one_more c (in_order_with r) s (in_order s r) all (whole-in_order s r)
    (ap (λ n. whole c (node_summed p e n)) (sym (ap view_value_node is ∙ view_value_node-Logic how a b)) ∙ so_far)

pub summed_choice : (p : Plain) (e : Embedded) (x : Value) (test a b : Value) (tested first all : Summary) (c d f : Around) → x.node ≡ value.Choose test a b
    → tested ≡ node_summed p e (view_value_node test.node) → first ≡ node_summed p e (view_value_node a.node)
    → d ≡ in_order_with (in_order (ended tested) first) → f ≡ outside c d
    → whole c (node_summed p e (view_value_node x.node)) ≡ all → whole f (node_summed p e (view_value_node b.node)) ≡ all
summed_choice p e x test a b tested first all c d f is of of' by made so_far =
    let s : Summary = node_summed p e (view_value_node b.node) in let u : Summary = ended (node_summed p e (view_value_node test.node)) in let r : Summary = node_summed p e (view_value_node a.node) in
    ap (λ g. whole g s) (made ∙ ap (outside c) (by ∙ (λ i. in_order_with (in_order (ended (of i)) (of' i))))) ∙ one_more c (in_order_with (in_order u r)) s (in_order u (in_order r s)) all
    (whole-in_order s (in_order u r) ∙ in_order_turned s u r)
    (ap (λ n. whole c (node_summed p e n)) (sym (ap view_value_node is ∙ view_value_node-Choose test a b)) ∙ so_far)

pub summed_effect : (p : Plain) (e : Embedded) (x : Value) (does : Effect) (vs us : List Value) (v : Value) (others all : Summary) (c d f : Around) → x.node ≡ value.Effect does vs → vs ≡ v ∷ us
    → others ≡ all_summed p e (t.values_of (map view_value us)) → d ≡ outside c (effect_of does) → f ≡ outside d (beside_this others)
    → whole c (node_summed p e (view_value_node x.node)) ≡ all → whole f (node_summed p e (view_value_node v.node)) ≡ all
summed_effect p e x does vs us v others all c d f is split of first second so_far =
    let s : Summary = node_summed p e (view_value_node v.node) in let r : Summary = all_summed p e (t.values_of (map view_value us)) in
    ap (λ g. whole g s) (second ∙ (λ i. outside (first i) (beside_this (of i))))
    ∙ one_more (outside c (effect_of does)) (beside_this r) s (beside s r) all (whole-beside s r)
    (one_more c (effect_of does) (beside s r) (at_effect does (beside s r)) all (whole-effect does (beside s r))
    (ap (λ n. whole c (node_summed p e n)) (sym (ap view_value_node is ∙ view_value_node-Effect does vs ∙ ap (λ ws. t.effect does (t.values_of (map view_value ws))) split)) ∙ so_far))

pub summed_alone : (p : Plain) (e : Embedded) (x : Value) (does : Effect) (vs : List Value) (q r all : Summary) (c d : Around) → x.node ≡ value.Effect does vs → length vs ≡ 0 → d ≡ outside c (effect_of does)
    → q ≡ quiet → r ≡ whole d q → whole c (node_summed p e (view_value_node x.node)) ≡ all → r ≡ all
summed_alone p e x does vs q r all c d is empty first is_quiet made so_far =
    made ∙ (λ i. whole (first i) (is_quiet i)) ∙ one_more c (effect_of does) quiet (at_effect does quiet) all (whole-effect does quiet)
    (ap (λ n. whole c (node_summed p e n)) (sym (ap view_value_node is ∙ view_value_node-Effect does vs ∙ ap (λ ws. t.effect does (t.values_of (map view_value ws))) (no_item vs empty))) ∙ so_far)

pub ruleset summary_turns = (whole-nothing, summed_operands, summed_no_operand, summed_logic, summed_choice, summed_effect, summed_alone)
