-- Contracts and annotations of loops over plain integers are what words ask for.
use Rattle.std.proofs.Common.{◌≡◌, ℕ, Bool, true, ◌&&◌, List, [], ◌∷◌, refl, ap, subst}
use Rattle.std.specs.Prelude.{Option, Some, None, slice_get}
use Rattle.std.specs.Option.{is_some}
use Rattle.std.specs.List.{list_all}
use Rattle.std.proofs.lemmas.Bool.{and_parts, false≢true}
use Rattle.typed_prog.specs.declared.operators.Variable.{Variable}
use Rattle.typed_prog.specs.declared.operators.Variable.TheVariants as variables
use Rattle.acsl_trees.specs.declared.heads.Content.TheVariants as content
use Rattle.acsl_trees.specs.declared.heads.Head.TheVariants as h
use Rattle.acsl_trees.specs.Tree.{Tree, node, stop, more}
use Rattle.qed_terms.specs.Meaning as sense
use Rattle.c_runs.specs.Program.{Claim, Measure, Behavior, Contract, Loop, Facts}
use Rattle.plain_states.proofs.Scoping.{found_below}
use Rattle.program_steps.specs.Told.{Shape}
use Rattle.program_steps.specs.Terms.{Texts}
use Rattle.program_steps.specs.Placed.{InSetting}
use Rattle.program_steps.specs.Typed.{ClaimFits, MeasureFits}
use Rattle.program_steps.specs.Functions.{AllOf, IsKnown, RegionFits, SetFits, BehaviorFits}
use Rattle.program_steps.specs.Starting.{BehaviorStarts}
use Rattle.plain_annotations.specs.Places.{are_none, is_known, TextsFit}
use Rattle.plain_annotations.specs.Claims.{is_body_claim, is_promise}
use Rattle.plain_annotations.specs.Clauses.{is_region, is_set, is_measure, are_claims, is_behavior, is_contract, is_loop, ContractFits, LoopAnnotationsFit, ContractsFit, LoopsFit}
use Rattle.plain_annotations.proofs.Claims.{claims_fit, promises_fit}

-- ---- lists

pub all_of : {X : Type 0} (f : X → Bool) (g : X → Type 0) (xs : List X) → ((x : X) → f x ≡ true → g x) → list_all f xs ≡ true → AllOf g xs
all_of f g [] made e = tt
all_of f g (x ∷ xs) made e = let b = and_parts (f x) (list_all f xs) e in (made x b.0, all_of f g xs made b.1)

nothing_in : {X : Type 0} (xs : List X) → are_none xs ≡ true → xs ≡ []
nothing_in [] e = refl
nothing_in (x ∷ xs) e = absurd (false≢true e)

-- ---- sets

found : {X : Type 0} (xs : List X) (n : ℕ) (o : Option X) → slice_get xs n ≡ o → is_some o ≡ true → (x : X) × (slice_get xs n ≡ Some x)
found xs n (Some x) e k = (x, e)
found xs n None e k = absurd (false≢true k)

known : (p : Facts) (s : Shape) (x : Variable) → is_known p s.variables x ≡ true → IsKnown p s x
known p s (variables.Global n) e = let v = found p.globals n (slice_get p.globals n) refl e in found_below p.globals n v.0 v.1
known p s (variables.Local n) e = let v = found s.variables n (slice_get s.variables n) refl e in found_below s.variables n v.0 v.1

region_fits : (p : Facts) (s : Shape) (a : Tree) → is_region p s.variables a ≡ true → RegionFits p s a
region_fits p s (node (h.Number z0) ks) e = absurd (false≢true e)
region_fits p s (node h.Null ks) e = absurd (false≢true e)
region_fits p s (node (h.Name z0) ks) e = absurd (false≢true e)
region_fits p s (node (h.Call z0) ks) e = absurd (false≢true e)
region_fits p s (node h.Result ks) e = absurd (false≢true e)
region_fits p s (node (h.At z0) ks) e = absurd (false≢true e)
region_fits p s (node (h.Variable z0) ks) e = absurd (false≢true e)
region_fits p s (node h.Pointed ks) e = absurd (false≢true e)
region_fits p s (node (h.Field z0 z1) ks) e = absurd (false≢true e)
region_fits p s (node (h.Element z0 z1) ks) e = absurd (false≢true e)
region_fits p s (node (h.Elements z0 z1) ks) e = absurd (false≢true e)
region_fits p s (node (h.Behind z0) ks) e = absurd (false≢true e)
region_fits p s (node (h.Read z0 z1) ks) e = absurd (false≢true e)
region_fits p s (node h.Address ks) e = absurd (false≢true e)
region_fits p s (node (h.Moved z0 z1) ks) e = absurd (false≢true e)
region_fits p s (node (h.Difference z0) ks) e = absurd (false≢true e)
region_fits p s (node h.Negate ks) e = absurd (false≢true e)
region_fits p s (node h.Complement ks) e = absurd (false≢true e)
region_fits p s (node (h.Arithmetic z0) ks) e = absurd (false≢true e)
region_fits p s (node (h.Convert z0) ks) e = absurd (false≢true e)
region_fits p s (node (h.Compare z0) ks) e = absurd (false≢true e)
region_fits p s (node (h.ComparePointers z0) ks) e = absurd (false≢true e)
region_fits p s (node h.Not ks) e = absurd (false≢true e)
region_fits p s (node h.And ks) e = absurd (false≢true e)
region_fits p s (node h.Or ks) e = absurd (false≢true e)
region_fits p s (node h.Xor ks) e = absurd (false≢true e)
region_fits p s (node h.Implies ks) e = absurd (false≢true e)
region_fits p s (node h.Iff ks) e = absurd (false≢true e)
region_fits p s (node h.Choose ks) e = absurd (false≢true e)
region_fits p s (node h.Chain ks) e = absurd (false≢true e)
region_fits p s (node (h.Link z0) ks) e = absurd (false≢true e)
region_fits p s (node (h.LinkPointers z0) ks) e = absurd (false≢true e)
region_fits p s (node h.Let ks) e = absurd (false≢true e)
region_fits p s (node (h.Every z0) ks) e = absurd (false≢true e)
region_fits p s (node (h.Some z0) ks) e = absurd (false≢true e)
region_fits p s (node (h.Valid z0 z1) ks) e = absurd (false≢true e)
region_fits p s (node h.Separated ks) e = absurd (false≢true e)
region_fits p s (node (h.Region content.Pointer) ks) e = absurd (false≢true e)
region_fits p s (node (h.Region (content.Struct k)) ks) e = absurd (false≢true e)
region_fits p s (node (h.Region (content.Integer k)) stop) e = absurd (false≢true e)
region_fits p s (node (h.Region (content.Integer k)) (more (node (h.Number z0) us) ts)) e = absurd (false≢true e)
region_fits p s (node (h.Region (content.Integer k)) (more (node h.Null us) ts)) e = absurd (false≢true e)
region_fits p s (node (h.Region (content.Integer k)) (more (node (h.Name z0) us) ts)) e = absurd (false≢true e)
region_fits p s (node (h.Region (content.Integer k)) (more (node (h.Call z0) us) ts)) e = absurd (false≢true e)
region_fits p s (node (h.Region (content.Integer k)) (more (node h.Result us) ts)) e = absurd (false≢true e)
region_fits p s (node (h.Region (content.Integer k)) (more (node (h.At z0) us) ts)) e = absurd (false≢true e)
region_fits p s (node (h.Region (content.Integer k)) (more (node h.Pointed us) ts)) e = absurd (false≢true e)
region_fits p s (node (h.Region (content.Integer k)) (more (node (h.Field z0 z1) us) ts)) e = absurd (false≢true e)
region_fits p s (node (h.Region (content.Integer k)) (more (node (h.Element z0 z1) us) ts)) e = absurd (false≢true e)
region_fits p s (node (h.Region (content.Integer k)) (more (node (h.Elements z0 z1) us) ts)) e = absurd (false≢true e)
region_fits p s (node (h.Region (content.Integer k)) (more (node (h.Behind z0) us) ts)) e = absurd (false≢true e)
region_fits p s (node (h.Region (content.Integer k)) (more (node (h.Read z0 z1) us) ts)) e = absurd (false≢true e)
region_fits p s (node (h.Region (content.Integer k)) (more (node h.Address us) ts)) e = absurd (false≢true e)
region_fits p s (node (h.Region (content.Integer k)) (more (node (h.Moved z0 z1) us) ts)) e = absurd (false≢true e)
region_fits p s (node (h.Region (content.Integer k)) (more (node (h.Difference z0) us) ts)) e = absurd (false≢true e)
region_fits p s (node (h.Region (content.Integer k)) (more (node h.Negate us) ts)) e = absurd (false≢true e)
region_fits p s (node (h.Region (content.Integer k)) (more (node h.Complement us) ts)) e = absurd (false≢true e)
region_fits p s (node (h.Region (content.Integer k)) (more (node (h.Arithmetic z0) us) ts)) e = absurd (false≢true e)
region_fits p s (node (h.Region (content.Integer k)) (more (node (h.Convert z0) us) ts)) e = absurd (false≢true e)
region_fits p s (node (h.Region (content.Integer k)) (more (node (h.Compare z0) us) ts)) e = absurd (false≢true e)
region_fits p s (node (h.Region (content.Integer k)) (more (node (h.ComparePointers z0) us) ts)) e = absurd (false≢true e)
region_fits p s (node (h.Region (content.Integer k)) (more (node h.Not us) ts)) e = absurd (false≢true e)
region_fits p s (node (h.Region (content.Integer k)) (more (node h.And us) ts)) e = absurd (false≢true e)
region_fits p s (node (h.Region (content.Integer k)) (more (node h.Or us) ts)) e = absurd (false≢true e)
region_fits p s (node (h.Region (content.Integer k)) (more (node h.Xor us) ts)) e = absurd (false≢true e)
region_fits p s (node (h.Region (content.Integer k)) (more (node h.Implies us) ts)) e = absurd (false≢true e)
region_fits p s (node (h.Region (content.Integer k)) (more (node h.Iff us) ts)) e = absurd (false≢true e)
region_fits p s (node (h.Region (content.Integer k)) (more (node h.Choose us) ts)) e = absurd (false≢true e)
region_fits p s (node (h.Region (content.Integer k)) (more (node h.Chain us) ts)) e = absurd (false≢true e)
region_fits p s (node (h.Region (content.Integer k)) (more (node (h.Link z0) us) ts)) e = absurd (false≢true e)
region_fits p s (node (h.Region (content.Integer k)) (more (node (h.LinkPointers z0) us) ts)) e = absurd (false≢true e)
region_fits p s (node (h.Region (content.Integer k)) (more (node h.Let us) ts)) e = absurd (false≢true e)
region_fits p s (node (h.Region (content.Integer k)) (more (node (h.Every z0) us) ts)) e = absurd (false≢true e)
region_fits p s (node (h.Region (content.Integer k)) (more (node (h.Some z0) us) ts)) e = absurd (false≢true e)
region_fits p s (node (h.Region (content.Integer k)) (more (node (h.Valid z0 z1) us) ts)) e = absurd (false≢true e)
region_fits p s (node (h.Region (content.Integer k)) (more (node h.Separated us) ts)) e = absurd (false≢true e)
region_fits p s (node (h.Region (content.Integer k)) (more (node (h.Region z0) us) ts)) e = absurd (false≢true e)
region_fits p s (node (h.Region (content.Integer k)) (more (node (h.Variable x) (more u us)) ts)) e = absurd (false≢true e)
region_fits p s (node (h.Region (content.Integer k)) (more (node (h.Variable x) stop) (more t ts))) e = absurd (false≢true e)
region_fits p s (node (h.Region (content.Integer k)) (more (node (h.Variable x) stop) stop)) e = record { variable = x; known = known p s x e; kind = k; is = refl }

pub set_fits : (p : Facts) (s : Shape) (o : Option (List Tree)) → is_set p s.variables o ≡ true → SetFits p s o
set_fits p s None e = tt
set_fits p s (Some ts) e = all_of (is_region p s.variables) (RegionFits p s) ts (region_fits p s) e

module _ (m : sense.World) (p : Facts) (s : Shape) (texts : Texts) (setting : InSetting m p s) (fit : TextsFit m p s texts) where
  claim : (a : Tree) → is_body_claim p texts s a ≡ true → (here entry loop_entry : ℕ) → ClaimFits m p s texts a here entry loop_entry
  claim a e = (claims_fit m p s texts setting fit a e).claim

  measure_fits : (o : Option Measure) → is_measure p texts s o ≡ true → (v : Measure) → o ≡ Some v → (here entry loop_entry : ℕ)
      → MeasureFits m p s texts v.what here entry loop_entry
  measure_fits (Some w) e v same = subst (λ o. OfSome o) same (claims_fit m p s texts setting fit w.what e).measure
    where
      OfSome : Option Measure → Type 0
      OfSome (Some v) = (here entry loop_entry : ℕ) → MeasureFits m p s texts v.what here entry loop_entry
      OfSome None = Unit {0}
  measure_fits None e v same = absurd (false≢true (ap is_some same))

  -- ---- behaviors

  behavior_parts : (b : Behavior) → is_behavior p texts s b ≡ true
      → (list_all (is_body_claim p texts s) b.assumes ≡ true) × ((are_claims p texts s b.requires ≡ true)
      × ((list_all (λ (c : Claim). is_promise p texts s c.what) b.ensures ≡ true) × (is_set p s.variables b.assigns ≡ true)))
  behavior_parts b e =
      let x = and_parts (list_all (is_body_claim p texts s) b.assumes)
      (are_claims p texts s b.requires && (list_all (λ (c : Claim). is_promise p texts s c.what) b.ensures && is_set p s.variables b.assigns)) e in
      let y = and_parts (are_claims p texts s b.requires) (list_all (λ (c : Claim). is_promise p texts s c.what) b.ensures && is_set p s.variables b.assigns) x.1 in
      let z = and_parts (list_all (λ (c : Claim). is_promise p texts s c.what) b.ensures) (is_set p s.variables b.assigns) y.1 in
      (x.0, (y.0, (z.0, z.1)))

  behavior_fits : (b : Behavior) → is_behavior p texts s b ≡ true → BehaviorFits m p s texts b
  behavior_fits b e =
      let x = behavior_parts b e in
      record {
        assumes = all_of (is_body_claim p texts s) (λ a. ClaimFits m p s texts a 1 1 1) b.assumes (λ a k. claim a k 1 1 1) x.0;
        ensures = all_of (λ (c : Claim). is_promise p texts s c.what) _ b.ensures (λ c k. promises_fit m p s texts setting fit c.what k) x.1.1.0;
        assigns = set_fits p s b.assigns x.1.1.1;
      }

  behavior_starts : (b : Behavior) → is_behavior p texts s b ≡ true → BehaviorStarts m p s texts b
  behavior_starts b e =
      let x = behavior_parts b e in
      record {
        assumes = all_of (is_body_claim p texts s) (λ a. ClaimFits m p s texts a 0 0 0) b.assumes (λ a k. claim a k 0 0 0) x.0;
        requires = all_of (λ (c : Claim). is_body_claim p texts s c.what) (λ (c : Claim). ClaimFits m p s texts c.what 0 0 0) b.requires (λ c k. claim c.what k 0 0 0) x.1.0;
      }

  assumed : (b : Behavior) → is_behavior p texts s b ≡ true → AllOf (λ a. (here entry loop_entry : ℕ) → ClaimFits m p s texts a here entry loop_entry) b.assumes
  assumed b e =
      all_of (is_body_claim p texts s) (λ a. (here entry loop_entry : ℕ) → ClaimFits m p s texts a here entry loop_entry) b.assumes claim (behavior_parts b e).0

  -- ---- contracts and loops

  contract_fits : (c : Contract) → is_contract p texts s c ≡ true → ContractFits m p s texts c
  contract_fits c e =
      let x = and_parts (are_none c.plain.assumes) (is_behavior p texts s c.plain && (list_all (is_behavior p texts s) c.behaviors && is_measure p texts s c.decreases)) e in
      let y = and_parts (is_behavior p texts s c.plain) (list_all (is_behavior p texts s) c.behaviors && is_measure p texts s c.decreases) x.1 in
      let z = and_parts (list_all (is_behavior p texts s) c.behaviors) (is_measure p texts s c.decreases) y.1 in
      record {
        assumes = nothing_in c.plain.assumes x.0;
        plain = behavior_fits c.plain y.0;
        behaviors = all_of (is_behavior p texts s) (BehaviorFits m p s texts) c.behaviors behavior_fits z.0;
        starts = record {
          assumes = nothing_in c.plain.assumes x.0;
          plain = behavior_starts c.plain y.0;
          behaviors = all_of (is_behavior p texts s) (BehaviorStarts m p s texts) c.behaviors behavior_starts z.0;
        };
        assumed = all_of (is_behavior p texts s) _ c.behaviors assumed z.0;
        sets = all_of (is_behavior p texts s) (λ (b : Behavior). SetFits p s b.assigns) c.behaviors (λ b k. set_fits p s b.assigns (behavior_parts b k).1.1.1) z.0;
        measure = measure_fits c.decreases z.1;
      }

  loop_fits : (l : Loop) → is_loop p texts s l ≡ true → LoopAnnotationsFit m p s texts l
  loop_fits l e =
      let x = and_parts (are_claims p texts s l.invariants) (is_set p s.variables l.assigns && is_measure p texts s l.variant) e in
      let y = and_parts (is_set p s.variables l.assigns) (is_measure p texts s l.variant) x.1 in
      record {
        invariants = all_of (λ (c : Claim). is_body_claim p texts s c.what) (λ (c : Claim). (here entry loop_entry : ℕ) → ClaimFits m p s texts c.what here entry loop_entry)
            l.invariants (λ c k. claim c.what k) x.0;
        variant = measure_fits l.variant y.1;
        regions = set_fits p s l.assigns y.0;
      }

pub contracts_fit : ContractsFit
contracts_fit m p s texts setting fit c e = contract_fits m p s texts setting fit c e

pub loops_fit : LoopsFit
loops_fit m p s texts setting fit l e = loop_fits m p s texts setting fit l e
