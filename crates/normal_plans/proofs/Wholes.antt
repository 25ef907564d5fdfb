-- What comes first in an expression, and then what is left of it.
use Rattle.std.proofs.Common.{◌≡◌, ◌<◌, ◌≤◌, ◌+◌, ℕ, Bool, true, false, List, length, drop, get_or, refl, sym, ap, ◌∙◌, subst}
use Rattle.std.proofs.lemmas.List.{at_drop_more, at_drop_all}
use Rattle.typed_prog.specs.declared.types.CoreType.{CoreType}
use Rattle.typed_prog.specs.declared.operators.Op.{Op}
use Rattle.typed_prog.specs.declared.operators.Effect.{Effect}
use Rattle.typed_prog.specs.declared.operators.Effect.TheVariants as effect
use Rattle.typed_prog.specs.declared.tree.Value.{Value}
use Rattle.typed_prog.specs.declared.tree.ValueNode.TheVariants as node
use Rattle.typed_prog.proofs.Equations.{view_value_node-Apply}
use Rattle.typed_prog.specs.Tree as t
use Rattle.typed_prog.specs.View.{view_value, view_values, view_value_node}
use Rattle.core_trees.specs.declared.statements.Core.{Core}
use Rattle.core_trees.specs.View.{view_cores}
use Rattle.c_runs.specs.Program.{Variable}
use Rattle.c_runs.specs.Values.{has_effect}
use Rattle.c_runs.specs.Plans.{Made, Plan, pure, kept, no_value, whole_made, plans, planned, node_plans, first_plan, made_if, effect_plan, choice_made, jumps_, tests_}
use Rattle.normal_steps.specs.Into.{MadeInto, choice_from}
use Rattle.normal_steps.proofs.Joins.{join_end}
use Rattle.normal_steps.proofs.Ways as ways
use Rattle.normal_effects.proofs.Behind.{made_after}
use Rattle.normal_plans.specs.Flow.{is_connective, is_connective_node}

pub whole_done : (old mid new : List Core) (xs : List Variable) (first : ℕ → Made) (d w : Value) (k n n' : ℕ) (e : t.Value) → MadeInto old mid (first k) d n → MadeInto mid new ((pure xs (view_value d) e).made n) w n'
    → MadeInto old new (whole_made xs e first k) w n'
whole_done old mid new xs first d w k n n' e h g = made_after old mid new (first k) (λ d n. (pure xs d e).made n) d w n n' h g

applied_by : (xs : List Variable) (x : t.ValueNode) (type : CoreType) (l : ℕ) (o : Op) (es : t.Values) (k : ℕ) → x ≡ t.apply o es → (planned xs (t.typed x type l)).made k ≡ whole_made xs (t.typed x type l) (first_plan xs es) k
applied_by xs x type l o es k h = subst (λ x. (planned xs (t.typed x type l)).made k ≡ whole_made xs (t.typed x type l) (first_plan xs es) k) (sym h) refl

-- an operator
pub applied_is : (xs : List Variable) (v : Value) (o : Op) (es : List Value) (k : ℕ) → v.node ≡ node.Apply o es → (planned xs (view_value v)).made k ≡ whole_made xs (view_value v) (first_plan xs (t.values_of (view_values es))) k
applied_is xs v o es k h = applied_by xs (view_value_node v.node) v.ty v.line o (t.values_of (view_values es)) k (ap view_value_node h ∙ view_value_node-Apply o es)

-- ---- conditions

effect_jumps : (xs : List Variable) (type : CoreType) (l : ℕ) (e : Effect) (es : t.Values) (first : ℕ → Made) → (effect_plan xs type l e es first).jumps ≡ false
effect_jumps xs type l (effect.Assign path) es first = refl
effect_jumps xs type l (effect.Update path by form) es first = refl
effect_jumps xs type l (effect.Call f) es first = refl

jumps_node : (xs : List Variable) (type : CoreType) (l : ℕ) (x : t.ValueNode) → (node_plans xs type l x).all.jumps ≡ is_connective_node x
jumps_node xs type l (t.constant z) = refl
jumps_node xs type l t.null = refl
jumps_node xs type l (t.temporary n) = refl
jumps_node xs type l (t.apply o es) = refl
jumps_node xs type l (t.logic how a b) = refl
jumps_node xs type l (t.choose c a b) = refl
jumps_node xs type l (t.effect e es) = effect_jumps xs type l e es (first_plan xs es)

-- the test is made of jumps alone exactly for a connective
pub jumps_is : (xs : List Variable) (e : t.Value) → (planned xs e).jumps ≡ is_connective e
jumps_is xs (t.typed x type l) = jumps_node xs type l x

pub by_jumps : (type : CoreType) (l : ℕ) (xs : List Variable) (e : t.Value) (a b : Plan) (n : ℕ) (flow : Bool) → flow ≡ is_connective e → flow ≡ true → choice_made type l (planned xs e) a b n ≡ choice_from type l (jumps_ ((planned xs e).test true 0 n)) a b
by_jumps type l xs e a b n flow h g = ways.by_jumps type l (planned xs e) a b n (jumps_is xs e ∙ sym h ∙ g)

pub by_branch : (type : CoreType) (l : ℕ) (xs : List Variable) (e : t.Value) (a b : Plan) (n : ℕ) (flow : Bool) → flow ≡ is_connective e → flow ≡ false → choice_made type l (planned xs e) a b n ≡ choice_from type l (tests_ ((planned xs e).made n)) a b
by_branch type l xs e a b n flow h g = ways.by_branch type l (planned xs e) a b n (jumps_is xs e ∙ sym h ∙ g)

-- ---- what comes first in operands

-- the operand at hand
first_step : (xs : List Variable) (items : List Value) (i k : ℕ) (item : Value) → i < length items → item ≡ get_or items i item
    → first_plan xs (t.values_of (view_values (drop i items))) k ≡ made_if (has_effect (view_value item)) (plans xs (view_value item)).first (first_plan xs (t.values_of (view_values (drop (i + 1) items)))) k
first_step xs items i k item lt is =
    at_drop_more (λ zs. first_plan xs (t.values_of (view_values zs)) k) items i item lt ∙ ap (λ (z : Value). first_plan xs (t.more (view_value z) (t.values_of (view_values (drop (i + 1) items)))) k) (sym is)

pub first_here : (xs : List Variable) (items : List Value) (i k : ℕ) (item : Value) (whole : Made) → i < length items → item ≡ get_or items i item → has_effect (view_value item) ≡ true
    → first_plan xs (t.values_of (view_values (drop i items))) k ≡ whole → (plans xs (view_value item)).first k ≡ whole
first_here xs items i k item whole lt is h e =
    sym (first_step xs items i k item lt is ∙ ap (λ b. made_if b (plans xs (view_value item)).first (first_plan xs (t.values_of (view_values (drop (i + 1) items)))) k) h) ∙ e

pub first_next : (xs : List Variable) (items : List Value) (i k : ℕ) (item : Value) (whole : Made) → i < length items → item ≡ get_or items i item → has_effect (view_value item) ≡ false
    → first_plan xs (t.values_of (view_values (drop i items))) k ≡ whole → first_plan xs (t.values_of (view_values (drop (i + 1) items))) k ≡ whole
first_next xs items i k item whole lt is h e =
    sym (first_step xs items i k item lt is ∙ ap (λ b. made_if b (plans xs (view_value item)).first (first_plan xs (t.values_of (view_values (drop (i + 1) items)))) k) h) ∙ e

pub first_none : (old : List Core) (xs : List Variable) (items : List Value) (i k : ℕ) (whole : Made) (w : Value) → length items ≤ i → first_plan xs (t.values_of (view_values (drop i items))) k ≡ whole → view_value w ≡ no_value → MadeInto old old whole w k
first_none old xs items i k whole w le e v =
    let none : kept no_value k ≡ whole = sym (at_drop_all (λ zs. first_plan xs (t.values_of (view_values zs)) k) items i le) ∙ e in
    subst (λ m. MadeInto old old m w k) none (record { pushed = sym (join_end (view_cores old)); value_is = v; next_is = refl })
