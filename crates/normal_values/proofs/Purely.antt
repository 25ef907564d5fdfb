-- Expressions whose effect is done.
use Rattle.std.proofs.Common.{◌≡◌, ℕ, Bool, true, false, not, ◌||◌, if◌then◌else◌, List, refl, sym, ap, ◌∙◌, subst}
use Rattle.typed_prog.specs.declared.types.CoreType.{CoreType}
use Rattle.typed_prog.specs.declared.operators.Op.{Op}
use Rattle.typed_prog.specs.declared.tree.Value.{Value}
use Rattle.typed_prog.specs.declared.tree.ValueNode.TheVariants as node
use Rattle.typed_prog.proofs.Equations.{view_value_node-Apply}
use Rattle.typed_prog.specs.Tree as t
use Rattle.typed_prog.specs.View.{view_value}
use Rattle.c_runs.specs.Core as c
use Rattle.core_trees.specs.declared.statements.Core.{Core}
use Rattle.c_runs.specs.Program.{Variable}
use Rattle.c_runs.specs.Values.{has_effect}
use Rattle.c_runs.specs.Plans.{Made, Mades, Plan, pure, pure_node, jumps_, tests_, choice_made, sent_made, kept, leafy, logic_plan}
use Rattle.normal_steps.specs.declared.puts.Put.TheVariants as put
use Rattle.normal_steps.specs.Into.{MadeInto, MadesInto, SentInto, choice_from}
use Rattle.normal_steps.proofs.Ways as ways
use Rattle.normal_values.specs.Flow.{is_flow, is_flow_node}

-- an operator on operands that were made
pub op_done : (old new : List Core) (m : Mades) (o : Op) (type : CoreType) (l n : ℕ) (operands : List Value) (w : Value) → MadesInto old new m operands n → w ≡ record { node = node.Apply o operands; ty = type; line = l }
    → MadeInto old new (record { before = m.before; value = t.typed (t.apply o m.values) type l; next_temp = m.next_temp }) w n
op_done old new m o type l n operands w h e = record {
  pushed = h.pushed;
  value_is = ap view_value e ∙ ap (λ x. t.typed x type l) (view_value_node-Apply o operands ∙ ap (t.apply o) h.values_are);
  next_is = h.next_is;
}

flow_if : (b : Bool) (p q : Plan) → p.jumps ≡ false → q.jumps ≡ true → (if b then p else q).jumps ≡ not b
flow_if true p q h g = h
flow_if false p q h g = g

still_if : (b : Bool) (p q : Plan) → p.jumps ≡ false → q.jumps ≡ false → (if b then p else q).jumps ≡ false
still_if true p q h g = h
still_if false p q h g = g

flow_node : (xs : List Variable) (d : t.Value) (type : CoreType) (l : ℕ) (x : t.ValueNode) → (pure_node xs d type l x).jumps ≡ is_flow_node x
flow_node xs d type l (t.constant z) = refl
flow_node xs d type l t.null = refl
flow_node xs d type l (t.temporary n) = refl
flow_node xs d type l (t.apply o es) = refl
flow_node xs d type l (t.logic how a b) = flow_if (has_effect b) (leafy (kept d)) (logic_plan type l how (pure xs d a) (pure xs d b)) refl refl
flow_node xs d type l (t.choose q a b) = still_if (has_effect a || has_effect b) (leafy (kept d)) (leafy (choice_made type l (pure xs d q) (pure xs d a) (pure xs d b))) refl refl
flow_node xs d type l (t.effect e es) = refl

flow_is : (xs : List Variable) (d e : t.Value) → (pure xs d e).jumps ≡ is_flow e
flow_is xs d (t.typed x type l) = flow_node xs d type l x

pub by_jumps : (type : CoreType) (l : ℕ) (xs : List Variable) (d e : t.Value) (a b : Plan) (n : ℕ) (flow : Bool) → flow ≡ is_flow e → flow ≡ true → choice_made type l (pure xs d e) a b n ≡ choice_from type l (jumps_ ((pure xs d e).test true 0 n)) a b
by_jumps type l xs d e a b n flow h g = ways.by_jumps type l (pure xs d e) a b n (flow_is xs d e ∙ sym h ∙ g)

pub by_branch : (type : CoreType) (l : ℕ) (xs : List Variable) (d e : t.Value) (a b : Plan) (n : ℕ) (flow : Bool) → flow ≡ is_flow e → flow ≡ false → choice_made type l (pure xs d e) a b n ≡ choice_from type l (tests_ ((pure xs d e).made n)) a b
by_branch type l xs d e a b n flow h g = ways.by_branch type l (pure xs d e) a b n (flow_is xs d e ∙ sym h ∙ g)

-- ---- where the value goes to a temporary

sent_if : (b : Bool) (p q : Plan) (n : ℕ) → p.sent n ≡ sent_made (p.made n) → q.sent n ≡ sent_made (q.made n) → (if b then p else q).sent n ≡ sent_made ((if b then p else q).made n)
sent_if true p q n h g = h
sent_if false p q n h g = g

sent_node : (xs : List Variable) (d : t.Value) (type : CoreType) (l : ℕ) (x : t.ValueNode) (n : ℕ) → (pure_node xs d type l x).sent n ≡ sent_made ((pure_node xs d type l x).made n)
sent_node xs d type l (t.constant z) n = refl
sent_node xs d type l t.null n = refl
sent_node xs d type l (t.temporary k) n = refl
sent_node xs d type l (t.apply o es) n = refl
sent_node xs d type l (t.logic how a b) n = sent_if (has_effect b) (leafy (kept d)) (logic_plan type l how (pure xs d a) (pure xs d b)) n refl refl
sent_node xs d type l (t.choose q a b) n = sent_if (has_effect a || has_effect b) (leafy (kept d)) (leafy (choice_made type l (pure xs d q) (pure xs d a) (pure xs d b))) n refl refl
sent_node xs d type l (t.effect e es) n = refl

sent_is : (xs : List Variable) (d e : t.Value) (n : ℕ) → (pure xs d e).sent n ≡ sent_made ((pure xs d e).made n)
sent_is xs d (t.typed x type l) n = sent_node xs d type l x n

pub made_sent : (old new : List Core) (m : Made) (v : Value) (n : ℕ) → MadeInto old new m v n → SentInto old new (sent_made m) (put.Made v) n
made_sent old new m v n h = record { pushed = h.pushed; put_is = ap (λ e k. c.set k e) h.value_is; next_is = h.next_is }

pub pure_sent : (old new : List Core) (xs : List Variable) (d e : t.Value) (t n : ℕ) (v : Value) → MadeInto old new ((pure xs d e).made t) v n → SentInto old new ((pure xs d e).sent t) (put.Made v) n
pure_sent old new xs d e t n v h = subst (λ s. SentInto old new s (put.Made v) n) (sym (sent_is xs d e t)) (made_sent old new ((pure xs d e).made t) v n h)
