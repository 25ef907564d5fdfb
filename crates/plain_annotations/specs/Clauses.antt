-- Contracts and annotations of loops over plain integers (ACSL 2.3, 2.4): tests of them, and the laws.
use Rattle.std.specs.Prelude.{◌≡◌, ℕ, Bool, true, false, ◌&&◌, List, [], Option, Some, None}
use Rattle.std.specs.List.{list_all}
use Rattle.acsl_trees.specs.declared.heads.Content.TheVariants as content
use Rattle.acsl_trees.specs.declared.heads.Head.TheVariants as h
use Rattle.acsl_trees.specs.Tree.{Tree, node, stop, more}
use Rattle.qed_terms.specs.Meaning as sense
use Rattle.c_runs.specs.Program as program
use Rattle.c_runs.specs.Program.{Claim, Measure, Behavior, Contract, Loop, Facts}
use Rattle.program_steps.specs.Told.{Shape}
use Rattle.program_steps.specs.Terms.{Texts}
use Rattle.program_steps.specs.Placed.{InSetting}
use Rattle.program_steps.specs.Typed.{ClaimFits, MeasureFits}
use Rattle.program_steps.specs.Functions.{AllOf, SetFits, BehaviorFits}
use Rattle.program_steps.specs.Starting.{StartFits}
use Rattle.plain_annotations.specs.Places.{are_none, is_known, TextsFit}
use Rattle.plain_annotations.specs.Claims.{is_body_claim, is_promise}

-- ---- tests

-- a region that is a variable
abbrev pub is_region : Facts → (own : List program.Variable) → Tree → Bool
is_region p own (node (h.Region (content.Integer k)) (more (node (h.Variable x) stop) stop)) = is_known p own x
is_region p own t = false

abbrev pub is_set : Facts → (own : List program.Variable) → Option (List Tree) → Bool
is_set p own None = true
is_set p own (Some ts) = list_all (is_region p own) ts

module _ (p : Facts) (texts : Texts) (s : Shape) where
  abbrev pub is_measure : Option Measure → Bool
  is_measure None = true
  is_measure (Some v) = is_body_claim p texts s v.what

  abbrev pub are_claims : List Claim → Bool
  are_claims cs = list_all (λ (c : Claim). is_body_claim p texts s c.what) cs

  abbrev pub is_behavior : Behavior → Bool
  is_behavior b =
      list_all (is_body_claim p texts s) b.assumes && (are_claims b.requires && (list_all (λ (c : Claim). is_promise p texts s c.what) b.ensures && is_set p s.variables b.assigns))

  abbrev pub is_contract : Contract → Bool
  is_contract c = are_none c.plain.assumes && (is_behavior c.plain && (list_all is_behavior c.behaviors && is_measure c.decreases))

  abbrev pub is_loop : Loop → Bool
  is_loop l = are_claims l.invariants && (is_set p s.variables l.assigns && is_measure l.variant)

-- ---- what they are

-- where the function's own word reads it, at whatever levels
pub record ContractFits (m : sense.World) (p : Facts) (s : Shape) (texts : Texts) (c : Contract) : Type 0 where
  pub assumes : c.plain.assumes ≡ []
  pub plain : BehaviorFits m p s texts c.plain
  pub behaviors : AllOf (BehaviorFits m p s texts) c.behaviors
  pub starts : StartFits m p s texts c
  pub assumed : AllOf (λ (b : Behavior). AllOf (λ a. (here entry loop_entry : ℕ) → ClaimFits m p s texts a here entry loop_entry) b.assumes) c.behaviors
  pub sets : AllOf (λ (b : Behavior). SetFits p s b.assigns) c.behaviors
  pub measure : (v : Measure) → c.decreases ≡ Some v → (here entry loop_entry : ℕ) → MeasureFits m p s texts v.what here entry loop_entry

pub record LoopAnnotationsFit (m : sense.World) (p : Facts) (s : Shape) (texts : Texts) (l : Loop) : Type 0 where
  pub invariants : AllOf (λ (c : Claim). (here entry loop_entry : ℕ) → ClaimFits m p s texts c.what here entry loop_entry) l.invariants
  pub variant : (v : Measure) → l.variant ≡ Some v → (here entry loop_entry : ℕ) → MeasureFits m p s texts v.what here entry loop_entry
  pub regions : SetFits p s l.assigns

abbrev pub ContractsFit : Type 0
ContractsFit =
    (m : sense.World) (p : Facts) (s : Shape) (texts : Texts) → InSetting m p s → TextsFit m p s texts → (c : Contract) → is_contract p texts s c ≡ true
    → ContractFits m p s texts c

abbrev pub LoopsFit : Type 0
LoopsFit =
    (m : sense.World) (p : Facts) (s : Shape) (texts : Texts) → InSetting m p s → TextsFit m p s texts → (l : Loop) → is_loop p texts s l ≡ true
    → LoopAnnotationsFit m p s texts l
