-- Whole contracts, annotations of loops, and the set in force.
use Rattle.std.proofs.Common.{◌≡◌, ℕ, Bool, true, false, if◌then◌else◌, List, [], ◌∷◌, Option, Some, None, slice_get, refl, sym, subst}
use Rattle.std.proofs.lemmas.Bool.{and_parts}
use Rattle.typed_prog.specs.declared.types.CoreType.{CoreType}
use Rattle.typed_prog.specs.declared.operators.Variable as code
use Rattle.typed_prog.specs.declared.operators.Variable.TheVariants as variables
use Rattle.typed_prog.specs.Tree as t
use Rattle.wp_base.specs.declared.kinds.CellKind.{CellKind}
use Rattle.wp_base.specs.declared.kinds.CellKind.TheVariants as cell
use Rattle.acsl_trees.specs.Tree as acsl
use Rattle.acsl_names.specs.declared.names.Definition.{Definition}
use Rattle.qed_terms.specs.Meaning as sense
use Rattle.c_runs.specs.Program as program
use Rattle.c_runs.specs.Program.{Claim, Measure, Behavior, Contract, Loop, Function, Facts}
use Rattle.c_runs.specs.Claims.{parts_of}
use Rattle.c_runs.specs.Objects.{is_plain_in}
use Rattle.c_runs.specs.Tree.{Steps}
use Rattle.acsl_well_typed.specs.WellTyped.{Known}
use Rattle.acsl_well_typed.specs.Definitions.{known_with}
use Rattle.annotations_encoded.specs.Sights.{has_block, unknown, Sights}
use Rattle.memory_words.specs.Shapes.{FileCells, Shape, kind_of}
use Rattle.memory_words.specs.Readings.{InScope, Texts, Standpoint, body_reading, entry_reading, return_reading}
use Rattle.memory_words.specs.Seen.{ClaimFits, MeasureFits}
use Rattle.memory_words.specs.Points.{Point}
use Rattle.memory_words.specs.Words.{entered_loop}
use Rattle.memory_words.specs.Typed.{AllOf, is_plain_variable, RegionFits, SetFits}
use Rattle.memory_calls.specs.LoopFits.{at_levels, has_level, IsInSight, SetRegion, SetRegions, ClauseFits}
use Rattle.memory_calls.specs.Callee.{entered_at, returned_from}
use Rattle.memory_calls.specs.CallFits.{no_local, IfMeasured, CalleeBehaviorFits}
use Rattle.typed_annotations.specs.Sights.{kind_site, any_site, file_site, local_site, param_site, body_site, contract_site, may_name, of_file, params_of, body_sights, entry_sights, return_sights}
use Rattle.typed_annotations.specs.Claims.{TextsFit, IsClaim, IsRegionIn}
use Rattle.typed_annotations.specs.Laws.{IsSeen}
use Rattle.typed_annotations.specs.Behaviors.{AreRegions, BehaviorIs, ContractIs, LoopIs, OwnBehaviorFits, OwnContractFits, LoopAnnotationsFit, ContractsFit, LoopsFit, ForcesFit, CalleesFit}
use Rattle.typed_annotations.proofs.Fits.{annotations_fit}
use Rattle.typed_annotations.proofs.Regions.{regions_fit}
use Rattle.typed_annotations.proofs.Reading.{own_readings, callee_readings}

all_of : {X : Type 0} (f g : X → Type 0) → ((x : X) → f x → g x) → (xs : List X) → AllOf f xs → AllOf g xs
all_of f g go [] h = tt
all_of f g go (x ∷ xs) h = (go x h.0, all_of f g go xs h.1)

-- ---- variables that are seen

kind_block : (k : CellKind) → kind_site k ≡ has_block → ⊥
kind_block (cell.Of k) e = absurd cc
kind_block cell.Ptr e = absurd cc

any_block : (k : CellKind) → any_site k ≡ has_block → ⊥
any_block (cell.Of k) e = absurd cc
any_block cell.Ptr e = absurd cc

file_block : (o : Option program.Variable) → file_site o ≡ has_block → is_plain_in o ≡ false
file_block (Some v) e = by v.is_plain e
  where
    by : (b : Bool) → (if b then kind_site (kind_of v) else has_block) ≡ has_block → b ≡ false
    by true e = absurd (kind_block (kind_of v) e)
    by false e = refl
file_block None e = absurd cc

local_block : (o : Option program.Variable) → local_site o ≡ has_block → is_plain_in o ≡ false
local_block (Some v) e = by v.is_plain v.has_value e
  where
    by : (b h : Bool) → (if b then (if h then kind_site (kind_of v) else any_site (kind_of v)) else has_block) ≡ has_block → b ≡ false
    by true true e = absurd (kind_block (kind_of v) e)
    by true false e = absurd (any_block (kind_of v) e)
    by false h e = refl
local_block None e = absurd cc

param_block : (o : Option program.Variable) → param_site o ≡ has_block → ⊥
param_block (Some v) e = kind_block (kind_of v) e
param_block None e = absurd cc

module _ (p : Facts) (s : Shape) (cells : FileCells) (texts : Texts) where
  body_seen : (i ps l : InScope) (b : Bool) → IsSeen p s cells i (may_name p s.variables i) (body_sights p cells texts s.variables i ps l b)
  body_seen i ps l b = record { blocks = blocks; table = refl; plain = plain; in_sight = sight }
    where
      blocks : (x : code.Variable) → body_site p s.variables i x ≡ has_block → is_plain_variable p s x ≡ false
      blocks (variables.Global x) e = file_block (slice_get p.globals x) e
      blocks (variables.Local x) e = by (i x) e
        where
          by : (b : Bool) → (if b then local_site (slice_get s.variables x) else unknown) ≡ has_block → is_plain_in (slice_get s.variables x) ≡ false
          by true e = local_block (slice_get s.variables x) e
          by false e = absurd cc

      plain : (x : code.Variable) → may_name p s.variables i x ≡ true → is_plain_variable p s x ≡ true
      plain (variables.Global x) e = e
      plain (variables.Local x) e = (and_parts (i x) (is_plain_in (slice_get s.variables x)) e).1

      sight : (x : code.Variable) → may_name p s.variables i x ≡ true → IsInSight i x
      sight (variables.Global x) e = tt
      sight (variables.Local x) e = (and_parts (i x) (is_plain_in (slice_get s.variables x)) e).0

  -- by the contract of a function with these variables
  contract_seen : (vs : List program.Variable) (ps i : InScope) → IsSeen p s cells i (of_file p) (entry_sights p cells texts vs ps)
  contract_seen vs ps i = record { blocks = blocks; table = refl; plain = plain; in_sight = sight }
    where
      blocks : (x : code.Variable) → contract_site p vs ps x ≡ has_block → is_plain_variable p s x ≡ false
      blocks (variables.Global x) e = file_block (slice_get p.globals x) e
      blocks (variables.Local x) e = by (ps x) e
        where
          by : (b : Bool) → (if b then param_site (slice_get vs x) else unknown) ≡ has_block → is_plain_in (slice_get s.variables x) ≡ false
          by true e = absurd (param_block (slice_get vs x) e)
          by false e = absurd cc

      plain : (x : code.Variable) → of_file p x ≡ true → is_plain_variable p s x ≡ true
      plain (variables.Global x) e = e
      plain (variables.Local x) e = absurd cc

      sight : (x : code.Variable) → of_file p x ≡ true → IsInSight i x
      sight (variables.Global x) e = tt
      sight (variables.Local x) e = absurd cc

module _ (m : sense.World) (p : Facts) (s : Shape) (cells : FileCells) (texts : Texts) (fit : TextsFit m p s cells texts) (ds : List Definition) (result : CoreType) where
  abbrev K : Known
  K = known_with true ds result

  -- ---- the function's own annotations

  module _ (ps : InScope) where
    abbrev entry : Sights
    entry = entry_sights p cells texts s.variables ps

    abbrev back : Sights
    back = return_sights p cells texts s.variables ps s.result

    entry_claim : (a : acsl.Tree) → IsClaim K entry a → (level : ℕ) → ClaimFits m p (entry_reading p s cells texts level ps) a × MeasureFits m p
        (entry_reading p s cells texts level ps) a
    entry_claim a h l = annotations_fit m p texts ds result entry (entry_reading p s cells texts l ps) a ((own_readings m p s cells texts fit a).entry l ps) h

    back_claim : (a : acsl.Tree) → IsClaim K back a → (e : ℕ) → ClaimFits m p (return_reading p s cells texts e ps) a
    back_claim a h e = (annotations_fit m p texts ds result back (return_reading p s cells texts e ps) a ((own_readings m p s cells texts fit a).back e ps) h).0

    entry_region : (i : InScope) (a : acsl.Tree) → IsRegionIn (of_file p) K entry a → (level : ℕ)
        → SetRegion m p s cells i (entry_reading p s cells texts level ps) a × RegionFits m p s (entry_reading p s cells texts level ps) a
    entry_region i a h l =
        regions_fit m p s cells texts ds result i (of_file p) entry (entry_reading p s cells texts l ps) a ((own_readings m p s cells texts fit a).entry l ps)
        (contract_seen p s cells texts s.variables ps i) h

    entry_sets : (i : InScope) (level : ℕ) (o : Option (List acsl.Tree)) → AreRegions (IsRegionIn (of_file p) K entry) o → SetRegions m p s cells i
        (entry_reading p s cells texts level ps) o
    entry_sets i l None h = tt
    entry_sets i l (Some as_) h = all_of (IsRegionIn (of_file p) K entry) (SetRegion m p s cells i (entry_reading p s cells texts l ps)) (λ a k. (entry_region i a k l).0) as_ h

    entry_fits : (level : ℕ) (o : Option (List acsl.Tree)) → AreRegions (IsRegionIn (of_file p) K entry) o → SetFits m p s (entry_reading p s cells texts level ps) o
    entry_fits l None h = tt
    entry_fits l (Some as_) h = all_of (IsRegionIn (of_file p) K entry) (RegionFits m p s (entry_reading p s cells texts l ps)) (λ a k. (entry_region ps a k l).1) as_ h

    behavior_fits : (b : Behavior) → BehaviorIs p K entry back b → OwnBehaviorFits m p s cells texts ps b
    behavior_fits b h = record {
      assumes = all_of (IsClaim K entry) (λ a. (level : ℕ) → ClaimFits m p (entry_reading p s cells texts level ps) a) (λ a k l. (entry_claim a k l).0) b.assumes h.assumes;
      requires = all_of (λ (c : Claim). IsClaim K entry c.what) (λ (c : Claim). (level : ℕ) → ClaimFits m p (entry_reading p s cells texts level ps) c.what)
          (λ c k l. (entry_claim c.what k l).0) b.requires h.requires;
      ensures = all_of (λ (c : Claim). IsClaim K back c.what) (λ (c : Claim). (entry : ℕ) → ClaimFits m p (return_reading p s cells texts entry ps) c.what)
          (λ c k e. back_claim c.what k e) b.ensures h.ensures;
      regions = λ l. entry_sets ps l b.assigns h.assigns;
      sets = λ l. entry_fits l b.assigns h.assigns;
    }

    contract_fits : (c : Contract) → ContractIs p K entry back c → OwnContractFits m p s cells texts ps c
    contract_fits c h = record {
      assumes = h.assumes;
      plain = behavior_fits c.plain h.plain;
      behaviors = all_of (BehaviorIs p K entry back) (OwnBehaviorFits m p s cells texts ps) behavior_fits c.behaviors h.behaviors;
      measure = λ v e l. (entry_claim v.what (h.measure v e) l).1;
    }

    clause_fits : (b : Behavior) → BehaviorIs p K entry back b → ClauseFits m p s cells texts ps b
    clause_fits b h = record { assumes = (behavior_fits b h).assumes; regions = (behavior_fits b h).regions }

    clauses_fit : (c : Contract) → ContractIs p K entry back c → AllOf (ClauseFits m p s cells texts ps) (parts_of c)
    clauses_fit c h = (clause_fits c.plain h.plain, all_of (BehaviorIs p K entry back) (ClauseFits m p s cells texts ps) clause_fits c.behaviors h.behaviors)

  -- ---- bodies

  abbrev own : Standpoint → Sights
  own sp = body_sights p cells texts s.variables sp.in_scope sp.is_param sp.loop_scope (has_level sp.loop_entry)

  body_claim : (sp : Standpoint) (a : acsl.Tree) → IsClaim K (own sp) a → ClaimFits m p (body_reading p s cells texts sp) a × MeasureFits m p (body_reading p s cells texts sp) a
  body_claim sp a h = annotations_fit m p texts ds result (own sp) (body_reading p s cells texts sp) a ((own_readings m p s cells texts fit a).body sp) h

  body_region : (sp : Standpoint) (a : acsl.Tree) → IsRegionIn (may_name p s.variables sp.in_scope) K (own sp) a → SetRegion m p s cells sp.in_scope
      (body_reading p s cells texts sp) a
  body_region sp a h =
      (regions_fit m p s cells texts ds result sp.in_scope (may_name p s.variables sp.in_scope) (own sp) (body_reading p s cells texts sp) a
      ((own_readings m p s cells texts fit a).body sp) (body_seen p s cells texts sp.in_scope sp.is_param sp.loop_scope (has_level sp.loop_entry)) h).0

  -- ---- loops

  module _ (pt : Point) where
    abbrev inside : (h e g : ℕ) → Standpoint
    inside h e g = at_levels (entered_loop pt) h e (Some g)

    abbrev its : Sights
    its = body_sights p cells texts s.variables pt.stands.in_scope pt.stands.is_param pt.stands.in_scope true

    loop_sets : (h e g : ℕ) (o : Option (List acsl.Tree)) → AreRegions (IsRegionIn (may_name p s.variables pt.stands.in_scope) K its) o
        → SetRegions m p s cells pt.stands.in_scope (body_reading p s cells texts (inside h e g)) o
    loop_sets h e g None k = tt
    loop_sets h e g (Some as_) k = all_of (IsRegionIn (may_name p s.variables pt.stands.in_scope) K its)
        (SetRegion m p s cells pt.stands.in_scope (body_reading p s cells texts (inside h e g))) (λ a k. body_region (inside h e g) a k) as_ k

    loop_fits : (l : Loop) → LoopIs (may_name p s.variables pt.stands.in_scope) K its l → LoopAnnotationsFit m p s cells texts pt l
    loop_fits l k = record {
      invariants = all_of (λ (c : Claim). IsClaim K its c.what) (λ (c : Claim). (h e g : ℕ) → ClaimFits m p (body_reading p s cells texts (inside h e g)) c.what)
          (λ c k h e g. (body_claim (inside h e g) c.what k).0) l.invariants k.invariants;
      variant = λ v e h n g. (body_claim (inside h n g) v.what (k.variant v e)).1;
      regions = λ h e g. loop_sets h e g l.assigns k.assigns;
    }

  force_fits : (sp : Standpoint) (rs : List acsl.Tree) → AllOf (IsRegionIn (may_name p s.variables sp.in_scope) K (own sp)) rs
      → (h e : ℕ) (g : Option ℕ) → has_level g ≡ has_level sp.loop_entry → AllOf (SetRegion m p s cells sp.in_scope (body_reading p s cells texts (at_levels sp h e g))) rs
  force_fits sp rs k h e g same =
      all_of (IsRegionIn (may_name p s.variables sp.in_scope) K (own sp)) (SetRegion m p s cells sp.in_scope (body_reading p s cells texts (at_levels sp h e g)))
      (λ a k. body_region (at_levels sp h e g) a
      (subst (λ b. IsRegionIn (may_name p s.variables sp.in_scope) K (body_sights p cells texts s.variables sp.in_scope sp.is_param sp.loop_scope b) a) (sym same) k))
      rs k

  -- ---- a function that is called

  module _ (f : Function Steps) (es : t.Values) where
    abbrev in_entry : Sights
    in_entry = entry_sights p cells texts f.variables (params_of f)

    abbrev in_return : Sights
    in_return = return_sights p cells texts f.variables (params_of f) f.result

    entered_claim : (a : acsl.Tree) → IsClaim K in_entry a → (level : ℕ)
        → ClaimFits m p (entered_at p s cells texts f es level) a × MeasureFits m p (entered_at p s cells texts f es level) a
    entered_claim a h l =
        annotations_fit m p texts ds result in_entry (entered_at p s cells texts f es l) a ((callee_readings m p s cells texts fit a f es).entered l) h

    returned_claim : (a : acsl.Tree) → IsClaim K in_return a → ClaimFits m p (returned_from p s cells texts f es) a
    returned_claim a h =
        (annotations_fit m p texts ds result in_return (returned_from p s cells texts f es) a (callee_readings m p s cells texts fit a f es).returned h).0

    entered_sets : (level : ℕ) (o : Option (List acsl.Tree)) → AreRegions (IsRegionIn (of_file p) K in_entry) o
        → SetRegions m p s cells no_local (entered_at p s cells texts f es level) o
    entered_sets l None h = tt
    entered_sets l (Some as_) h =
        all_of (IsRegionIn (of_file p) K in_entry) (SetRegion m p s cells no_local (entered_at p s cells texts f es l))
        (λ a k. (regions_fit m p s cells texts ds result no_local (of_file p) in_entry (entered_at p s cells texts f es l) a
        ((callee_readings m p s cells texts fit a f es).entered l) (contract_seen p s cells texts f.variables (params_of f) no_local) k).0)
        as_ h

    callee_behavior : (b : Behavior) → BehaviorIs p K in_entry in_return b → CalleeBehaviorFits m p s cells texts f es b
    callee_behavior b h = record {
      assumes = all_of (IsClaim K in_entry) (λ a. (level : ℕ) → ClaimFits m p (entered_at p s cells texts f es level) a) (λ a k l. (entered_claim a k l).0) b.assumes h.assumes;
      requires = all_of (λ (c : Claim). IsClaim K in_entry c.what) (λ (c : Claim). ClaimFits m p (entered_at p s cells texts f es 0) c.what)
          (λ c k. (entered_claim c.what k 0).0) b.requires h.requires;
      ensures = all_of (λ (c : Claim). IsClaim K in_return c.what) (λ (c : Claim). ClaimFits m p (returned_from p s cells texts f es) c.what)
          (λ c k. returned_claim c.what k) b.ensures h.ensures;
      assigns = λ l. entered_sets l b.assigns h.assigns;
    }

    measured : (o : Option Measure) → ((v : Measure) → o ≡ Some v → IsClaim K in_entry v.what)
        → IfMeasured (λ a. MeasureFits m p (entered_at p s cells texts f es 0) a.what) o
    measured None h = tt
    measured (Some v) h = (entered_claim v.what (h v refl) 0).1

pub contracts_fit : ContractsFit
contracts_fit m p s cells texts fit ds result ps c h = contract_fits m p s cells texts fit ds result ps c h

pub loops_fit : LoopsFit
loops_fit m p s cells texts fit ds result pt l h = loop_fits m p s cells texts fit ds result pt l h

pub forces_fit : ForcesFit
forces_fit m p s cells texts fit ds result c pt = (
  (λ h. (h.assumes, clauses_fit m p s cells texts fit ds result pt.stands.is_param c h)),
  (λ sp rs d k h e g same. force_fits m p s cells texts fit ds result sp rs k h e g same),
)

pub callees_fit : CalleesFit
callees_fit m p s cells texts fit ds result f es h = record {
  assumes = h.assumes;
  plain = callee_behavior m p s cells texts fit ds result f es f.contract.plain h.plain;
  behaviors = all_of
      (BehaviorIs p (known_with true ds result) (entry_sights p cells texts f.variables (params_of f)) (return_sights p cells texts f.variables (params_of f) f.result))
      (CalleeBehaviorFits m p s cells texts f es) (callee_behavior m p s cells texts fit ds result f es) f.contract.behaviors h.behaviors;
  measure = measured m p s cells texts fit ds result f es f.contract.decreases h.measure;
}
