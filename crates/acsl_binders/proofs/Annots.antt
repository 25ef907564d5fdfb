-- Clauses as spelled, in the lists of their sorts and then in the order of the text.
use Rattle.std.proofs.Common.{ℕ, Bool, true, false, if◌then◌else◌, nat_lt, List, [], ◌∷◌, ◌++◌, map, Option, Some, None, sym, subst}
use Rattle.c_syntax.specs.declared.token.Token.{Token}
use Rattle.c_syntax.specs.declared.annot.Names.{Names as Named}
use Rattle.c_syntax.specs.Pred.{Pred}
use Rattle.c_syntax.specs.Term.{Term}
use Rattle.c_syntax.specs.Contract.{Clause, Measure, AssignsClause, Behavior, Contract, LoopAnnot}
use Rattle.c_syntax.specs.Decl as d
use Rattle.c_grammar.specs.Tokens.{Names}
use Rattle.c_grammar.specs.Annots as g
use Rattle.c_grammar.specs.Annots.{SpellsClause, SpellsItem, SpellsItems, SpellsBehavior, SpellsBehaviors, SpellsContract, SpellsLoop, SpellsAssert, SpellsLogic, contract_of}
use Rattle.acsl_clauses.specs.declared.items.Role.{Role}
use Rattle.acsl_clauses.specs.declared.items.Group.{Group}
use Rattle.acsl_clauses.specs.declared.items.Role.TheVariants as role
use Rattle.acsl_clauses.specs.declared.items.Group.TheVariants as group
use Rattle.acsl_clauses.specs.Items as i
use Rattle.acsl_clauses.specs.Items.{Item, place_of, ahead, behind, merged, claims, assigns_by, assigns_of, measure_of, behavior_of, behaviors_of, own_of, together_of}
use Rattle.acsl_well_typed.specs.Ranges.{EachBinds}
use Rattle.acsl_well_typed.specs.Clauses.{All, ItemBinds, ContractBinds, LoopBinds}
use Rattle.acsl_well_typed.specs.Definitions.{BodyBinds}
use Rattle.acsl_binders.specs.Spelled.{SpelledAssertionsBind, SpelledContractsBind, SpelledLoopsBind, SpelledDefinitionsBind}
use Rattle.acsl_binders.proofs.Preds.{pred_binds}

-- ---- lists

pub both_all : {X : Type 0} (P : X → Type 0) (xs ys : List X) → All P xs → All P ys → All P (xs ++ ys)
both_all P [] ys f g = g
both_all P (x ∷ xs) ys f g = (f.0, both_all P xs ys f.1 g)

ahead_if : (b : Bool) (x : Item) (xs : List Item) → ItemBinds x → All ItemBinds xs → All ItemBinds (if b then x ∷ xs else [])
ahead_if true x xs f fs = (f, fs)
ahead_if false x xs f fs = tt

ahead_binds : (place : ℕ) (xs : List Item) → All ItemBinds xs → All ItemBinds (ahead place xs)
ahead_binds place [] fs = tt
ahead_binds place (x ∷ xs) fs = ahead_if (nat_lt (place_of x) place) x (ahead place xs) fs.0 (ahead_binds place xs fs.1)

behind_if : (b : Bool) (xs ys : List Item) → All ItemBinds xs → All ItemBinds ys → All ItemBinds (if b then xs else ys)
behind_if true xs ys f g = f
behind_if false xs ys f g = g

behind_binds : (place : ℕ) (xs : List Item) → All ItemBinds xs → All ItemBinds (behind place xs)
behind_binds place [] fs = tt
behind_binds place (x ∷ xs) fs = behind_if (nat_lt (place_of x) place) (behind place xs) (x ∷ xs) (behind_binds place xs fs.1) fs

merged_bind : (xs ys : List Item) → All ItemBinds xs → All ItemBinds ys → All ItemBinds (merged xs ys)
merged_bind [] ys f g = g
merged_bind (x ∷ xs) ys f g =
    both_all ItemBinds (ahead (place_of x) ys) (x ∷ merged xs (behind (place_of x) ys)) (ahead_binds (place_of x) ys g)
    (f.0, merged_bind xs (behind (place_of x) ys) f.1 (behind_binds (place_of x) ys g))

-- ---- clauses of one sort

abbrev pub ClauseBinds : Clause → Type 0
ClauseBinds c = EachBinds c.pred

claims_bind : (r : Role) (cs : List Clause) → All ClauseBinds cs → All ItemBinds (claims r cs)
claims_bind r [] fs = tt
claims_bind r (c ∷ cs) fs = (fs.0, claims_bind r cs fs.1)

assigns_by_binds : (a : AssignsClause) (set : Option (List Term)) → All ItemBinds (assigns_by a set)
assigns_by_binds a None = tt
assigns_by_binds a (Some ts) = (tt, tt)

assigns_binds : (a : AssignsClause) → All ItemBinds (assigns_of a)
assigns_binds a = assigns_by_binds a a.set

measure_binds : (m : Option Measure) → All ItemBinds (measure_of m)
measure_binds None = tt
measure_binds (Some m) = (tt, tt)

together_binds : (q : Group) (ns : List Named) → All ItemBinds (map (i.together q) ns)
together_binds q [] = tt
together_binds q (n ∷ ns) = (tt, together_binds q ns)

-- ---- clauses as spelled

abbrev pub SpelledItemBinds : g.Item → Type 0
SpelledItemBinds (g.requires_item c) = ClauseBinds c
SpelledItemBinds (g.ensures_item c) = ClauseBinds c
SpelledItemBinds (g.assumes_item c) = ClauseBinds c
SpelledItemBinds (g.invariant_item c) = ClauseBinds c
SpelledItemBinds (g.assigns_item a) = Unit {0}
SpelledItemBinds (g.loop_assigns_item a) = Unit {0}
SpelledItemBinds (g.decreases_item m) = Unit {0}
SpelledItemBinds (g.variant_item m) = Unit {0}

clause_binds : {types : Names} {room at : ℕ} {keyword : List ℕ} {ts : List Token} {c : Clause} → SpellsClause types room at keyword ts c → ClauseBinds c
clause_binds (g.clause line x is) = pred_binds x

item_binds : {types : Names} {room at : ℕ} {ts : List Token} {x : g.Item} → SpellsItem types room at ts x → SpelledItemBinds x
item_binds (g.requires x) = clause_binds x
item_binds (g.ensures x) = clause_binds x
item_binds (g.assumes x) = clause_binds x
item_binds (g.assigns x) = tt
item_binds (g.decreases x) = tt
item_binds (g.invariant x is) = subst ClauseBinds (sym is) (clause_binds x)
item_binds (g.loop_assigns x is) = tt
item_binds (g.variant x is) = tt

items_bind : {types : Names} {room at : ℕ} {ts : List Token} {xs : List g.Item} → SpellsItems types room at ts xs → All SpelledItemBinds xs
items_bind g.none = tt
items_bind (g.more x xs is) = (item_binds x, items_bind xs)

requires_bind : (xs : List g.Item) → All SpelledItemBinds xs → All ClauseBinds (g.requires_of xs)
requires_bind [] fs = tt
requires_bind (g.requires_item c ∷ xs) fs = (fs.0, requires_bind xs fs.1)
requires_bind (g.ensures_item c ∷ xs) fs = requires_bind xs fs.1
requires_bind (g.assumes_item c ∷ xs) fs = requires_bind xs fs.1
requires_bind (g.invariant_item c ∷ xs) fs = requires_bind xs fs.1
requires_bind (g.assigns_item a ∷ xs) fs = requires_bind xs fs.1
requires_bind (g.loop_assigns_item a ∷ xs) fs = requires_bind xs fs.1
requires_bind (g.decreases_item m ∷ xs) fs = requires_bind xs fs.1
requires_bind (g.variant_item m ∷ xs) fs = requires_bind xs fs.1

ensures_bind : (xs : List g.Item) → All SpelledItemBinds xs → All ClauseBinds (g.ensures_of xs)
ensures_bind [] fs = tt
ensures_bind (g.requires_item c ∷ xs) fs = ensures_bind xs fs.1
ensures_bind (g.ensures_item c ∷ xs) fs = (fs.0, ensures_bind xs fs.1)
ensures_bind (g.assumes_item c ∷ xs) fs = ensures_bind xs fs.1
ensures_bind (g.invariant_item c ∷ xs) fs = ensures_bind xs fs.1
ensures_bind (g.assigns_item a ∷ xs) fs = ensures_bind xs fs.1
ensures_bind (g.loop_assigns_item a ∷ xs) fs = ensures_bind xs fs.1
ensures_bind (g.decreases_item m ∷ xs) fs = ensures_bind xs fs.1
ensures_bind (g.variant_item m ∷ xs) fs = ensures_bind xs fs.1

assumes_bind : (xs : List g.Item) → All SpelledItemBinds xs → All ClauseBinds (g.assumes_of xs)
assumes_bind [] fs = tt
assumes_bind (g.requires_item c ∷ xs) fs = assumes_bind xs fs.1
assumes_bind (g.ensures_item c ∷ xs) fs = assumes_bind xs fs.1
assumes_bind (g.assumes_item c ∷ xs) fs = (fs.0, assumes_bind xs fs.1)
assumes_bind (g.invariant_item c ∷ xs) fs = assumes_bind xs fs.1
assumes_bind (g.assigns_item a ∷ xs) fs = assumes_bind xs fs.1
assumes_bind (g.loop_assigns_item a ∷ xs) fs = assumes_bind xs fs.1
assumes_bind (g.decreases_item m ∷ xs) fs = assumes_bind xs fs.1
assumes_bind (g.variant_item m ∷ xs) fs = assumes_bind xs fs.1

invariants_bind : (xs : List g.Item) → All SpelledItemBinds xs → All ClauseBinds (g.invariants_of xs)
invariants_bind [] fs = tt
invariants_bind (g.requires_item c ∷ xs) fs = invariants_bind xs fs.1
invariants_bind (g.ensures_item c ∷ xs) fs = invariants_bind xs fs.1
invariants_bind (g.assumes_item c ∷ xs) fs = invariants_bind xs fs.1
invariants_bind (g.invariant_item c ∷ xs) fs = (fs.0, invariants_bind xs fs.1)
invariants_bind (g.assigns_item a ∷ xs) fs = invariants_bind xs fs.1
invariants_bind (g.loop_assigns_item a ∷ xs) fs = invariants_bind xs fs.1
invariants_bind (g.decreases_item m ∷ xs) fs = invariants_bind xs fs.1
invariants_bind (g.variant_item m ∷ xs) fs = invariants_bind xs fs.1

-- ---- behaviors

pub record BehaviorBinds (b : Behavior) : Type 0 where
  pub assumed : All ClauseBinds b.assumes
  pub required : All ClauseBinds b.requires_
  pub ensured : All ClauseBinds b.ensures_

behavior_binds : {types : Names} {at : ℕ} {ts : List Token} {b : Behavior} → SpellsBehavior types at ts b → BehaviorBinds b
behavior_binds (g.behavior line line' {items = xs} is x stand split made) =
    subst BehaviorBinds (sym made)
    (record { assumed = assumes_bind xs (items_bind x); required = requires_bind xs (items_bind x); ensured = ensures_bind xs (items_bind x) })

behaviors_bind : {types : Names} {at : ℕ} {ts : List Token} {bs : List Behavior} → SpellsBehaviors types at ts bs → All BehaviorBinds bs
behaviors_bind g.none = tt
behaviors_bind (g.more x xs is) = (behavior_binds x, behaviors_bind xs)

in_behavior : (b : Behavior) → BehaviorBinds b → All ItemBinds (behavior_of b)
in_behavior b f = (
  tt,
  merged_bind (merged (claims role.Assumes b.assumes) (claims role.Requires b.requires_)) (merged (claims role.Ensures b.ensures_) (assigns_of b.assigns))
      (merged_bind (claims role.Assumes b.assumes) (claims role.Requires b.requires_) (claims_bind role.Assumes b.assumes f.assumed) (claims_bind role.Requires b.requires_ f.required))
      (merged_bind (claims role.Ensures b.ensures_) (assigns_of b.assigns) (claims_bind role.Ensures b.ensures_ f.ensured) (assigns_binds b.assigns)),
)

in_behaviors : (bs : List Behavior) → All BehaviorBinds bs → All ItemBinds (behaviors_of bs)
in_behaviors [] fs = tt
in_behaviors (b ∷ bs) fs = both_all ItemBinds (behavior_of b) (behaviors_of bs) (in_behavior b fs.0) (in_behaviors bs fs.1)

-- ---- contracts, loops, assertions and definitions

in_own : (k : Contract) → All ClauseBinds k.requires_ → All ClauseBinds k.ensures_ → All ItemBinds (own_of k)
in_own k f g =
    merged_bind (merged (claims role.Requires k.requires_) (claims role.Ensures k.ensures_)) (merged (assigns_of k.assigns) (measure_of k.decreases_))
    (merged_bind (claims role.Requires k.requires_) (claims role.Ensures k.ensures_) (claims_bind role.Requires k.requires_ f) (claims_bind role.Ensures k.ensures_ g))
    (merged_bind (assigns_of k.assigns) (measure_of k.decreases_) (assigns_binds k.assigns) (measure_binds k.decreases_))

in_together : (k : Contract) → All ItemBinds (together_of k)
in_together k =
    merged_bind (map (i.together group.Complete) k.complete) (map (i.together group.Disjoint) k.disjoint)
    (together_binds group.Complete k.complete) (together_binds group.Disjoint k.disjoint)

in_contract : (k : Contract) → All ClauseBinds k.requires_ → All ClauseBinds k.ensures_ → All BehaviorBinds k.behaviors → ContractBinds k
in_contract k f g h =
    both_all ItemBinds (own_of k) (behaviors_of k.behaviors ++ together_of k) (in_own k f g)
    (both_all ItemBinds (behaviors_of k.behaviors) (together_of k) (in_behaviors k.behaviors h) (in_together k))

pub no_contract_binds : ContractBinds (contract_of [] [] [])
no_contract_binds = in_contract (contract_of [] [] []) tt tt tt

pub contract_binds : {types : Names} {at : ℕ} {ts : List Token} {c : Contract} → SpellsContract types at ts c → ContractBinds c
contract_binds (g.contract {items = xs} {behaviors = bs} {endings = es} x stand behaviors endings split made) =
    subst ContractBinds (sym made)
    (in_contract (contract_of xs bs es) (requires_bind xs (items_bind x)) (ensures_bind xs (items_bind x)) (behaviors_bind behaviors))

in_loop : (k : LoopAnnot) → All ClauseBinds k.invariants → LoopBinds k
in_loop k f =
    merged_bind (claims role.Invariant k.invariants) (merged (assigns_of k.assigns) (measure_of k.variant)) (claims_bind role.Invariant k.invariants f)
    (merged_bind (assigns_of k.assigns) (measure_of k.variant) (assigns_binds k.assigns) (measure_binds k.variant))

pub no_loop_binds : LoopBinds (g.loop_of [])
no_loop_binds = in_loop (g.loop_of []) tt

pub loop_binds : {types : Names} {room at : ℕ} {ts : List Token} {annot : LoopAnnot} → SpellsLoop types room at ts annot → LoopBinds annot
loop_binds (g.loop {items = xs} x stand made) = subst LoopBinds (sym made) (in_loop (g.loop_of xs) (invariants_bind xs (items_bind x)))

pub assertion_binds : {types : Names} {room : ℕ} {ts : List Token} {a : Pred} {line : ℕ} → SpellsAssert types room ts a line → EachBinds a
assertion_binds (g.assert line x is) = pred_binds x

pub definition_binds : {types : Names} {ts : List Token} {l : d.LogicDecl} → SpellsLogic types ts l → BodyBinds l.body
definition_binds (g.predicate line line' line'' is params x split) = pred_binds x
definition_binds (g.logic line line' line'' result is params x split) = tt

-- ---- laws

pub spelled_contracts_bind : SpelledContractsBind
spelled_contracts_bind types at ts c x = contract_binds x

pub spelled_loops_bind : SpelledLoopsBind
spelled_loops_bind types room at ts annot x = loop_binds x

pub spelled_assertions_bind : SpelledAssertionsBind
spelled_assertions_bind types room ts a line x = assertion_binds x

pub spelled_definitions_bind : SpelledDefinitionsBind
spelled_definitions_bind types ts l x = definition_binds x
