-- Contracts and annotations of loops of functions with memory (ACSL 2.3, 2.4, 2.5).
use Rattle.std.specs.Prelude.{◌≡◌, ℕ, Bool, true, List, [], Option, Some, None}
use Rattle.typed_prog.specs.declared.types.CoreType.{CoreType}
use Rattle.typed_prog.specs.declared.operators.Variable as code
use Rattle.typed_prog.specs.Tree as t
use Rattle.acsl_trees.specs.Tree as acsl
use Rattle.acsl_names.specs.declared.names.Definition.{Definition}
use Rattle.qed_terms.specs.Meaning as sense
use Rattle.c_runs.specs.Program.{Claim, Measure, Behavior, Contract, Loop, Function, Facts}
use Rattle.c_runs.specs.Tree.{Steps}
use Rattle.acsl_well_typed.specs.WellTyped.{Known}
use Rattle.acsl_well_typed.specs.Definitions.{known_with}
use Rattle.annotations_encoded.specs.Sights.{Sights}
use Rattle.memory_words.specs.Shapes.{FileCells, Shape}
use Rattle.memory_words.specs.Readings.{InScope, Texts, Standpoint, body_reading, entry_reading, return_reading}
use Rattle.memory_words.specs.Seen.{ClaimFits, MeasureFits}
use Rattle.memory_words.specs.Points.{Point, of_function, of_loop}
use Rattle.memory_words.specs.Words.{entered_loop}
use Rattle.memory_words.specs.Typed.{AllOf, SetFits}
use Rattle.memory_calls.specs.LoopFits.{at_levels, has_level, SetRegions, ForceFits}
use Rattle.memory_calls.specs.CallFits.{CalleeFits}
use Rattle.typed_annotations.specs.Sights.{may_name, of_file, params_of, body_sights, entry_sights, return_sights}
use Rattle.typed_annotations.specs.Claims.{TextsFit, IsClaim, IsRegionIn}

-- ---- what is asked

abbrev pub AreRegions : (acsl.Tree → Type 0) → Option (List acsl.Tree) → Type 0
AreRegions f None = Unit {0}
AreRegions f (Some as_) = AllOf f as_

-- a behavior, as it is read at entry and where the function returns; its regions name variables of the file alone
pub record BehaviorIs (p : Facts) (k : Known) (entry back : Sights) (b : Behavior) : Type 0 where
  pub assumes : AllOf (IsClaim k entry) b.assumes
  pub requires : AllOf (λ (c : Claim). IsClaim k entry c.what) b.requires
  pub ensures : AllOf (λ (c : Claim). IsClaim k back c.what) b.ensures
  pub assigns : AreRegions (IsRegionIn (of_file p) k entry) b.assigns

-- nothing is assumed for what stands outside of behaviors
pub record ContractIs (p : Facts) (k : Known) (entry back : Sights) (c : Contract) : Type 0 where
  pub assumes : c.plain.assumes ≡ []
  pub plain : BehaviorIs p k entry back c.plain
  pub behaviors : AllOf (BehaviorIs p k entry back) c.behaviors
  pub measure : (v : Measure) → c.decreases ≡ Some v → IsClaim k entry v.what

-- a loop, whose regions name these variables
pub record LoopIs (may : code.Variable → Bool) (k : Known) (g : Sights) (l : Loop) : Type 0 where
  pub invariants : AllOf (λ (c : Claim). IsClaim k g c.what) l.invariants
  pub variant : (v : Measure) → l.variant ≡ Some v → IsClaim k g v.what
  pub assigns : AreRegions (IsRegionIn may k g) l.assigns

-- ---- what they are then

module _ (m : sense.World) (p : Facts) (s : Shape) (cells : FileCells) (texts : Texts) where
  -- a behavior, at all levels
  pub record OwnBehaviorFits (ps : InScope) (b : Behavior) : Type 0 where
    pub assumes : AllOf (λ a. (level : ℕ) → ClaimFits m p (entry_reading p s cells texts level ps) a) b.assumes
    pub requires : AllOf (λ (c : Claim). (level : ℕ) → ClaimFits m p (entry_reading p s cells texts level ps) c.what) b.requires
    pub ensures : AllOf (λ (c : Claim). (entry : ℕ) → ClaimFits m p (return_reading p s cells texts entry ps) c.what) b.ensures
    pub regions : (level : ℕ) → SetRegions m p s cells ps (entry_reading p s cells texts level ps) b.assigns
    pub sets : (level : ℕ) → SetFits m p s (entry_reading p s cells texts level ps) b.assigns

  pub record OwnContractFits (ps : InScope) (c : Contract) : Type 0 where
    pub assumes : c.plain.assumes ≡ []
    pub plain : OwnBehaviorFits ps c.plain
    pub behaviors : AllOf (OwnBehaviorFits ps) c.behaviors
    pub measure : (v : Measure) → c.decreases ≡ Some v → (level : ℕ) → MeasureFits m p (entry_reading p s cells texts level ps) v.what

  -- of a loop that is entered there, as `LoopFits` asks
  pub record LoopAnnotationsFit (pt : Point) (l : Loop) : Type 0 where
    pub invariants : AllOf (λ (c : Claim). (h e g : ℕ) → ClaimFits m p (body_reading p s cells texts (at_levels (entered_loop pt) h e (Some g))) c.what) l.invariants
    pub variant : (v : Measure) → l.variant ≡ Some v → (h e g : ℕ) → MeasureFits m p (body_reading p s cells texts (at_levels (entered_loop pt) h e (Some g))) v.what
    pub regions : (h e g : ℕ) → SetRegions m p s cells pt.stands.in_scope (body_reading p s cells texts (at_levels (entered_loop pt) h e (Some g))) l.assigns

-- ---- the laws

abbrev pub ContractsFit : Type 0
ContractsFit =
    (m : sense.World) (p : Facts) (s : Shape) (cells : FileCells) (texts : Texts) → TextsFit m p s cells texts → (ds : List Definition) (result : CoreType) (ps : InScope)
    (c : Contract) → ContractIs p (known_with true ds result) (entry_sights p cells texts s.variables ps) (return_sights p cells texts s.variables ps s.result) c
    → OwnContractFits m p s cells texts ps c

abbrev pub LoopsFit : Type 0
LoopsFit =
    (m : sense.World) (p : Facts) (s : Shape) (cells : FileCells) (texts : Texts) → TextsFit m p s cells texts → (ds : List Definition) (result : CoreType) (pt : Point)
    (l : Loop)
    → LoopIs (may_name p s.variables pt.stands.in_scope) (known_with true ds result)
    (body_sights p cells texts s.variables pt.stands.in_scope pt.stands.is_param pt.stands.in_scope true) l
    → LoopAnnotationsFit m p s cells texts pt l

-- The set in force: the clauses of the function, or those of a loop around.
abbrev pub ForcesFit : Type 0
ForcesFit =
    (m : sense.World) (p : Facts) (s : Shape) (cells : FileCells) (texts : Texts) → TextsFit m p s cells texts → (ds : List Definition) (result : CoreType) (c : Contract)
    (pt : Point)
    → (ContractIs p (known_with true ds result) (entry_sights p cells texts s.variables pt.stands.is_param)
    (return_sights p cells texts s.variables pt.stands.is_param s.result) c → ForceFits m p s cells texts c pt of_function)
    × ((sp : Standpoint) (rs : List acsl.Tree) (d : ℕ)
    → AllOf (IsRegionIn (may_name p s.variables sp.in_scope) (known_with true ds result)
    (body_sights p cells texts s.variables sp.in_scope sp.is_param sp.loop_scope (has_level sp.loop_entry))) rs
    → ForceFits m p s cells texts c pt (of_loop sp rs d))

-- What passes as a function's own contract is what its callers ask for, whatever the arguments are.
abbrev pub CalleesFit : Type 0
CalleesFit =
    (m : sense.World) (p : Facts) (s : Shape) (cells : FileCells) (texts : Texts) → TextsFit m p s cells texts → (ds : List Definition) (result : CoreType)
    (g : Function Steps) (es : t.Values)
    → ContractIs p (known_with true ds result) (entry_sights p cells texts g.variables (params_of g))
    (return_sights p cells texts g.variables (params_of g) g.result) g.contract
    → CalleeFits m p s cells texts g es
