-- What stands in a step: how it is written over the terms in the slots, and what it is in a state. Both take the present slots first, and then those
-- that were remembered, the last ones first. That they say the same is a premise of the laws, so no law looks into a formula.
use Rattle.std.specs.Prelude.{◌≡◌, ℕ, ℤ, Bool, List, [], ◌∷◌, map}
use Rattle.qed_terms.specs.Tree.{Tree}
use Rattle.qed_terms.specs.Meaning as sense
use Rattle.qed_terms.specs.Meaning.{Values, value, truth}
use Rattle.qed_terms.specs.Fresh.{Lacks}
use Rattle.walk_steps.specs.State.{State}

-- the terms in the slots
abbrev pub Slots : Type 0
Slots = List Tree

-- a claim
pub record Form : Type 0 where
  pub written : List Slots → Tree
  pub told : List State → Bool

-- a term for an integer
pub record Number : Type 0 where
  pub written : List Slots → Tree
  pub told : List State → ℤ

-- a claim on one more value
pub record Fact : Type 0 where
  pub written : List Slots → Tree → Tree
  pub told : List State → ℤ → Bool

-- what a check asks for, by a number, and its line
pub record Place : Type 0 where
  pub kind : ℕ
  pub line : ℕ

-- a claim that is asked
pub record Check : Type 0 where
  pub form : Form
  pub place : Place

abbrev pub forms : List Check → List Form
forms cs = map (λ (c : Check). c.form) cs

abbrev pub written_forms : List Slots → List Form → List Tree
written_forms ss fs = map (λ (f : Form). f.written ss) fs

abbrev pub told_forms : List State → List Form → List Bool
told_forms sts fs = map (λ (f : Form). f.told sts) fs

abbrev pub written_facts : List Slots → List Fact → Tree → List Tree
written_facts ss fs t = map (λ (f : Fact). f.written ss t) fs

abbrev pub told_facts : List State → List Fact → ℤ → List Bool
told_facts sts fs z = map (λ (f : Fact). f.told sts z) fs

-- ---- what makes them good

abbrev pub bang : ℕ
bang = 33

-- The assignments differ at most in names with `!`, which quantifiers bind and no slot has.
pub record SameBesidesBound (env env' : Values) : Type 0 where
  pub ints : (x : List ℕ) → Lacks bang x → env.ints x ≡ env'.ints x
  pub memories : env.memories ≡ env'.memories
  pub tables : env.tables ≡ env'.tables

-- in a world, which says what logic functions are
module _ (m : sense.World) where
  abbrev pub state_of : Values → Slots → State
  state_of env ts = map (value m env) ts

  abbrev pub states_of : Values → List Slots → List State
  states_of env ss = map (state_of env) ss

  -- a term that no quantifier around it changes
  abbrev pub IsClean : Tree → Type 0
  IsClean t = (env env' : Values) → SameBesidesBound env env' → value m env t ≡ value m env' t

  abbrev pub AreClean : List Slots → Type 0
  AreClean ss = (env env' : Values) → SameBesidesBound env env' → states_of env ss ≡ states_of env' ss

  -- what is written is true where it is told so of the values of the slots
  abbrev pub IsForm : Form → Type 0
  IsForm f = (env : Values) (ss : List Slots) → AreClean ss → truth m env (f.written ss) ≡ f.told (states_of env ss)

  abbrev pub IsNumber : Number → Type 0
  IsNumber u = (env : Values) (ss : List Slots) → AreClean ss → value m env (u.written ss) ≡ u.told (states_of env ss)

  abbrev pub IsFact : Fact → Type 0
  IsFact f = (env : Values) (ss : List Slots) (t : Tree) → AreClean ss → IsClean t → truth m env (f.written ss t) ≡ f.told (states_of env ss) (value m env t)

  abbrev pub AreForms : List Form → Type 0
  AreForms [] = Unit {0}
  AreForms (f ∷ fs) = IsForm f × AreForms fs

  abbrev pub AreFacts : List Fact → Type 0
  AreFacts [] = Unit {0}
  AreFacts (f ∷ fs) = IsFact f × AreFacts fs
