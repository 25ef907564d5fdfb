-- Annotations that pass the tests are what is asked of them.
use Rattle.std.proofs.Common.{◌≡◌, Bool, true, false, ◌&&◌, ◌||◌, List, [], ◌∷◌, Option, Some, None, refl, ap, subst}
use Rattle.std.specs.List.{list_all}
use Rattle.std.proofs.lemmas.Bool.{and_parts}
use Rattle.std.proofs.lemmas.Option.{none-some, same_Some}
use Rattle.wp_base.specs.declared.kinds.CellKind.{CellKind}
use Rattle.wp_base.specs.declared.kinds.CellKind.TheVariants as cell
use Rattle.typed_prog.specs.declared.operators.Variable as code
use Rattle.acsl_trees.specs.declared.heads.Content.{Content}
use Rattle.acsl_trees.specs.declared.heads.Content.TheVariants as content
use Rattle.acsl_trees.specs.declared.heads.Head.TheVariants as head
use Rattle.acsl_trees.specs.Tree as acsl
use Rattle.c_runs.specs.Program.{Claim, Measure, Behavior, Contract, Loop, Facts}
use Rattle.acsl_well_typed.specs.WellTyped.{What, an_integer, a_pointer, an_object, a_region, a_linked_integer, a_linked_pointer, Known, what_of}
use Rattle.annotations_encoded.specs.Sights.{Sights}
use Rattle.annotations_encoded.specs.Serving.{serves}
use Rattle.memory_words.specs.Typed.{AllOf, is_scalar}
use Rattle.memory_statements.specs.Regions.{region}
use Rattle.memory_calls.specs.LoopFits.{content_of}
use Rattle.typed_annotations.specs.Sights.{of_file}
use Rattle.typed_annotations.specs.Claims.{IsClaim, IsRegionIn, names, has_cells}
use Rattle.typed_annotations.specs.Behaviors.{AreRegions, BehaviorIs, ContractIs, LoopIs}
use Rattle.program_tests.specs.Tests as test
use Rattle.program_tests.specs.Laws.{PassingAnnotationsAre}

pub all_pass : {X : Type 0} (f : X → Bool) (P : X → Type 0) → ((x : X) → f x ≡ true → P x) → (xs : List X) → list_all f xs ≡ true → AllOf P xs
all_pass f P give [] h = tt
all_pass f P give (x ∷ xs) h = let b = and_parts (f x) (list_all f xs) h in (give x b.0, all_pass f P give xs b.1)

either_true : (a b : Bool) (X : Type 0) → (a ≡ true → X) → (b ≡ true → X) → (a || b) ≡ true → X
either_true true b X f g h = f refl
either_true false b X f g h = g h

integer_is : (o : Option What) → test.is_integer o ≡ true → o ≡ Some an_integer
integer_is None h = absurd cc
integer_is (Some an_integer) h = refl
integer_is (Some a_pointer) h = absurd cc
integer_is (Some an_object) h = absurd cc
integer_is (Some a_region) h = absurd cc
integer_is (Some a_linked_integer) h = absurd cc
integer_is (Some a_linked_pointer) h = absurd cc

region_is : (o : Option What) → test.is_region o ≡ true → o ≡ Some a_region
region_is None h = absurd cc
region_is (Some an_integer) h = absurd cc
region_is (Some a_pointer) h = absurd cc
region_is (Some an_object) h = absurd cc
region_is (Some a_region) h = refl
region_is (Some a_linked_integer) h = absurd cc
region_is (Some a_linked_pointer) h = absurd cc

scalar_is : (c : Content) → is_scalar c ≡ true → (l : CellKind) × (c ≡ content_of l)
scalar_is (content.Integer k) h = (cell.Of k, refl)
scalar_is content.Pointer h = (cell.Ptr, refl)
scalar_is (content.Struct n) h = absurd cc

-- ---- single annotations

module _ (k : Known) (g : Sights) where
  pub claim_is : (a : acsl.Tree) → test.tree_passes k g a ≡ true → IsClaim k g a
  claim_is a h =
      let b = and_parts (test.is_integer (what_of k [] a)) (serves k g a) h in record { typed = integer_is (what_of k [] a) b.0; serves = b.1 }

  measure_is : (o : Option Measure) → test.measure_passes k g o ≡ true → (v : Measure) → o ≡ Some v → IsClaim k g v.what
  measure_is None h v e = absurd (none-some v e)
  measure_is (Some u) h v e = subst (λ (v : Measure). IsClaim k g v.what) (same_Some u v e) (claim_is u.what h)

  module _ (may : code.Variable → Bool) where
    one_named : (c : Content) (x : code.Variable) → (is_scalar c && may x) ≡ true → IsRegionIn may k g (region c (acsl.node (head.Variable x) acsl.stop))
    one_named c x h =
        let b = and_parts (is_scalar c) (may x) h in
        let l = scalar_is c b.0 in
        names x l.0 b.1 (ap (λ c. region c (acsl.node (head.Variable x) acsl.stop)) l.1)

    region_named : (a : acsl.Tree) → test.names_one may a ≡ true → IsRegionIn may k g a
    region_named (acsl.node (head.Region c) (acsl.more (acsl.node (head.Variable x) acsl.stop) acsl.stop)) h = one_named c x h
    region_named a h = absurd cc

    region_celled : (a : acsl.Tree) → test.has_cells k g a ≡ true → IsRegionIn may k g a
    region_celled a h =
        let b = and_parts (test.is_region (what_of k [] a)) (serves k g a && g.here.has_table) h in
        let d = and_parts (serves k g a) g.here.has_table b.1 in
        has_cells (region_is (what_of k [] a) b.0) d.0 d.1

    pub region_in : (a : acsl.Tree) → test.region_passes k g may a ≡ true → IsRegionIn may k g a
    region_in a h = either_true (test.names_one may a) (test.has_cells k g a) (IsRegionIn may k g a) (region_named a) (region_celled a) h

    pub set_is : (o : Option (List acsl.Tree)) → test.set_passes k g may o ≡ true → AreRegions (IsRegionIn may k g) o
    set_is None h = tt
    set_is (Some as_) h = all_pass (test.region_passes k g may) (IsRegionIn may k g) region_in as_ h

    pub loop_is : (l : Loop) → test.loop_passes k g may l ≡ true → LoopIs may k g l
    loop_is l h =
        let b = and_parts (list_all (test.claim_passes k g) l.invariants) (test.measure_passes k g l.variant && test.set_passes k g may l.assigns) h in
        let d = and_parts (test.measure_passes k g l.variant) (test.set_passes k g may l.assigns) b.1 in record {
          invariants = all_pass (test.claim_passes k g) (λ (c : Claim). IsClaim k g c.what) (λ c. claim_is c.what) l.invariants b.0;
          variant = measure_is l.variant d.0;
          assigns = set_is l.assigns d.1;
        }

-- ---- contracts

empty_is : {X : Type 0} (xs : List X) → test.is_empty xs ≡ true → xs ≡ []
empty_is [] h = refl
empty_is (x ∷ xs) h = absurd cc

module _ (p : Facts) (k : Known) (entry back : Sights) where
  behavior_is : (b : Behavior) → test.behavior_passes p k entry back b ≡ true → BehaviorIs p k entry back b
  behavior_is b h =
      let regions = test.set_passes k entry (of_file p) b.assigns in
      let ensures = list_all (test.claim_passes k back) b.ensures in
      let requires = list_all (test.claim_passes k entry) b.requires in
      let c = and_parts (list_all (test.tree_passes k entry) b.assumes) (requires && (ensures && regions)) h in
      let d = and_parts requires (ensures && regions) c.1 in
      let e = and_parts ensures regions d.1 in record {
        assumes = all_pass (test.tree_passes k entry) (IsClaim k entry) (claim_is k entry) b.assumes c.0;
        requires = all_pass (test.claim_passes k entry) (λ (c : Claim). IsClaim k entry c.what) (λ c. claim_is k entry c.what) b.requires d.0;
        ensures = all_pass (test.claim_passes k back) (λ (c : Claim). IsClaim k back c.what) (λ c. claim_is k back c.what) b.ensures e.0;
        assigns = set_is k entry (of_file p) b.assigns e.1;
      }

  pub contract_is : (c : Contract) → test.contract_passes p k entry back c ≡ true → ContractIs p k entry back c
  contract_is c h =
      let measure = test.measure_passes k entry c.decreases in
      let others = list_all (test.behavior_passes p k entry back) c.behaviors in
      let plain = test.behavior_passes p k entry back c.plain in
      let b = and_parts (test.is_empty c.plain.assumes) (plain && (others && measure)) h in
      let d = and_parts plain (others && measure) b.1 in
      let e = and_parts others measure d.1 in record {
        assumes = empty_is c.plain.assumes b.0;
        plain = behavior_is c.plain d.0;
        behaviors = all_pass (test.behavior_passes p k entry back) (BehaviorIs p k entry back) behavior_is c.behaviors e.0;
        measure = measure_is k entry c.decreases e.1;
      }

pub passing_annotations_are : PassingAnnotationsAre
passing_annotations_are k g = record {
  claim = claim_is k g;
  region = region_in k g;
  loop = loop_is k g;
  contract = λ p back c. contract_is p k g back c;
}
