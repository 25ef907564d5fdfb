-- The clauses of a contract or of a loop in the order of the text (ACSL 2.3, 2.4.2, 2.5). Each sort of clauses is in order, so two sorts are merged by
-- the places of their first tokens. Those of a behavior stand behind its name, and behind all behaviors what is said of them together.
use Rattle.std.specs.Prelude.{ℕ, nat_lt, List, [], ◌∷◌, ◌++◌, map, if◌then◌else◌, Option, Some, None}
use Rattle.c_syntax.specs.declared.annot.Names.{Names}
use Rattle.c_syntax.specs.Term.{Term}
use Rattle.c_syntax.specs.Contract.{Clause, Measure, AssignsClause, Behavior, Contract, LoopAnnot}
use Rattle.c_syntax.specs.View.{view_clause, view_measure, view_assigns, view_behavior}
use Rattle.acsl_clauses.specs.declared.items.Role.{Role}
use Rattle.acsl_clauses.specs.declared.items.Role.TheVariants as role
use Rattle.acsl_clauses.specs.declared.items.Group.{Group}
use Rattle.acsl_clauses.specs.declared.items.Group.TheVariants as group
use Rattle.acsl_clauses.specs.declared.items.Item.{Item as Code}
use Rattle.acsl_clauses.specs.declared.items.Item.TheVariants as code

-- a predicate in its role, what has to decrease, what may be assigned, the name of a behavior, and behaviors that are complete or disjoint
pub data Item : Type 0 where
  claim : (role : Role) (c : Clause) → Item
  measure : (m : Measure) → Item
  assigns : (a : AssignsClause) → Item
  behavior : (b : Behavior) → Item
  together : (group : Group) (n : Names) → Item

abbrev pub view_item : Code → Item
view_item (code.Claim r c) = claim r (view_clause c.now)
view_item (code.Measure m) = measure (view_measure m.now)
view_item (code.Assigns a) = assigns (view_assigns a.now)
view_item (code.Behavior b) = behavior (view_behavior b.now)
view_item (code.Together g n) = together g n.now

-- ---- order

-- where its first token stands
abbrev pub place_of : Item → ℕ
place_of (claim r c) = c.place
place_of (measure m) = m.place
place_of (assigns a) = a.place
place_of (behavior b) = b.place
place_of (together g n) = n.place

abbrev pub line_of : Item → ℕ
line_of (claim r c) = c.line
line_of (measure m) = m.line
line_of (assigns a) = a.line
line_of (behavior b) = b.line
line_of (together g n) = n.line

-- the clauses in front that stand before a place, and those behind them
abbrev pub ahead : (place : ℕ) → List Item → List Item
ahead place [] = []
ahead place (x ∷ xs) = if nat_lt (place_of x) place then x ∷ ahead place xs else []

abbrev pub behind : (place : ℕ) → List Item → List Item
behind place [] = []
behind place (x ∷ xs) = if nat_lt (place_of x) place then behind place xs else x ∷ xs

-- two sorts of clauses as one
abbrev pub merged : List Item → List Item → List Item
merged [] ys = ys
merged (x ∷ xs) ys = ahead (place_of x) ys ++ x ∷ merged xs (behind (place_of x) ys)

-- ---- clauses by their sorts

abbrev pub claims : Role → List Clause → List Item
claims r cs = map (claim r) cs

-- no set: no clause
abbrev pub assigns_by : AssignsClause → Option (List Term) → List Item
assigns_by a None = []
assigns_by a (Some ts) = assigns a ∷ []

abbrev pub assigns_of : AssignsClause → List Item
assigns_of a = assigns_by a a.set

abbrev pub measure_of : Option Measure → List Item
measure_of None = []
measure_of (Some m) = measure m ∷ []

abbrev pub behavior_of : Behavior → List Item
behavior_of b = behavior b ∷ merged (merged (claims role.Assumes b.assumes) (claims role.Requires b.requires_)) (merged (claims role.Ensures b.ensures_) (assigns_of b.assigns))

abbrev pub behaviors_of : List Behavior → List Item
behaviors_of [] = []
behaviors_of (b ∷ bs) = behavior_of b ++ behaviors_of bs

-- ---- contracts and loops

-- those of the contract itself, which stand before its behaviors
abbrev pub own_of : Contract → List Item
own_of k = merged (merged (claims role.Requires k.requires_) (claims role.Ensures k.ensures_)) (merged (assigns_of k.assigns) (measure_of k.decreases_))

abbrev pub together_of : Contract → List Item
together_of k = merged (map (together group.Complete) k.complete) (map (together group.Disjoint) k.disjoint)

abbrev pub contract_items : Contract → List Item
contract_items k = own_of k ++ (behaviors_of k.behaviors ++ together_of k)

abbrev pub loop_items : LoopAnnot → List Item
loop_items l = merged (claims role.Invariant l.invariants) (merged (assigns_of l.assigns) (measure_of l.variant))
