-- The laws of the expansion.
use Rattle.std.specs.Prelude.{◌≡◌, ◌⊎◌, ℕ, Bool, true, List, [], ◌∷◌}
use Rattle.qed_terms.specs.Meaning.{World, Values, truth}
use Rattle.qed_terms.specs.Tree.{Tree}
use Rattle.branches.specs.Steps.{LeadsToOne}
use Rattle.branches.specs.Branch.{Branch, HasModel, IsTrueUnder, AreTrue}
use Rattle.branches.specs.Expansion.{Rules, Task, End, Runs, all_closed, rules_of, from_formula}

-- ---- one end

-- a change and a round lead to one thing each
abbrev pub AreExact : Rules → Type 0
AreExact rules = LeadsToOne rules.change × LeadsToOne rules.round

-- An expansion comes to one end at most, and passes over the same branches.
abbrev pub OneEnd : Type 1
OneEnd =
    (rules : Rules) → AreExact rules → (budget : ℕ) (ts : List Task) (n : ℕ) (bs cs : List Branch) (e d : End)
    → Runs rules budget ts n bs e → Runs rules budget ts n cs d → (bs ≡ cs) × (e ≡ d)

-- ---- soundness

-- What closes a branch leaves it no model, what changes it leaves it one, and what a round adds follows from it.
pub record IsSound (rules : Rules) (w : World) : Type 0 where
  pub closes : (b : Branch) → rules.closed b → HasModel w b → ⊥
  pub changes : (b c : Branch) → rules.change b c → HasModel w b → HasModel w c
  pub adds : (b : Branch) (fs : List Tree) → rules.round b fs → (env : Values) → IsTrueUnder w env b → AreTrue w env fs

abbrev pub SomeModel : World → List Branch → Type 0
SomeModel w [] = ⊥
SomeModel w (b ∷ bs) = HasModel w b ⊎ SomeModel w bs

abbrev pub SomeTaskModel : World → List Task → Type 0
SomeTaskModel w [] = ⊥
SomeTaskModel w (t ∷ ts) = HasModel w t.at ⊎ SomeTaskModel w ts

-- Where each leaf is closed or passed over, a model of a branch is one of a branch that was passed over.
abbrev pub Soundness : Type 1
Soundness =
    (rules : Rules) (w : World) → IsSound rules w → (budget : ℕ) (ts : List Task) (n : ℕ) (bs : List Branch)
    → Runs rules budget ts n bs all_closed → SomeTaskModel w ts → SomeModel w bs

-- ---- at the rules of an implementation

module _ (passes : Bool) (closed : Branch → Type 0) (change : Branch → Branch → Type 0) (round : Branch → List Tree → Type 0) where
  -- an expansion of a formula comes to one end at most, and passes over the same branches
  abbrev pub OneEndBy : Type 0
  OneEndBy =
      LeadsToOne change → LeadsToOne round → (budget : ℕ) (ts : List Task) (n : ℕ) (bs cs : List Branch) (e d : End)
      → Runs (rules_of passes closed change round) budget ts n bs e → Runs (rules_of passes closed change round) budget ts n cs d → (bs ≡ cs) × (e ≡ d)

  -- where each leaf is closed or passed over, and the formula has a model, one that was passed over has
  abbrev pub SoundBy : Type 0
  SoundBy =
      (w : World) → IsSound (rules_of passes closed change round) w → (fuel budget : ℕ) (f : Tree) (bs : List Branch)
      → Runs (rules_of passes closed change round) budget (from_formula fuel f) 0 bs all_closed → (env : Values) → truth w env f ≡ true → SomeModel w bs
