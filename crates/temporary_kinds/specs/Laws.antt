-- What is so of the temporaries of a function whose statements keep to the kinds.
use Rattle.std.specs.Prelude.{◌≡◌, ◌<◌, ◌⊎◌, ℕ, true, List, [], ◌∷◌, Option, Some}
use Rattle.wp_base.specs.declared.kinds.CellKind.{CellKind}
use Rattle.c_runs.specs.Program.{Function, Facts}
use Rattle.c_runs.specs.Tree.{Steps}
use Rattle.program_steps.specs.Temporaries.{Temporaries, all_live}
use Rattle.typed_runs.specs.Fitting.{Shape, InScope}
use Rattle.typed_normal.specs.Typed.{CoresAreTyped}
use Rattle.c_runs.specs.Core.{Cores}
use Rattle.c_runs.specs.Adding.{steps_of}
use Rattle.temporary_kinds.specs.Kinds.{steps_kind, steps_count}

-- what is put into a temporary, or it is used as, is of its kind
abbrev pub MentionedKindsAreTheirs : Type 0
MentionedKindsAreTheirs =
    (p : Facts) (s : Shape) (functions : ℕ → Option (Function Cores)) (results : ℕ → Option CellKind)
    → ((n : ℕ) (g : Function Cores) → functions n ≡ Some g → results n ≡ g.result) → (f : InScope) (low : ℕ) (ss : Cores) → CoresAreTyped p s functions f low ss
    → (n : ℕ) (k : CellKind) → steps_kind results (steps_of s.variables ss) n ≡ Some k → s.temp_kind n ≡ k

-- used behind one of these
abbrev pub IsUsedIn : List Temporaries → (number : ℕ) → Type 0
IsUsedIn [] n = ⊥
IsUsedIn (f ∷ fs) n = (f n ≡ true) ⊎ IsUsedIn fs n

-- a temporary that is used from some point on is used in the statements there, or behind them
abbrev pub LiveAreMentioned : Type 0
LiveAreMentioned =
    (results : ℕ → Option CellKind) (ss : Steps) (os : List Temporaries) (t : Temporaries) (n : ℕ) → all_live ss os t n ≡ true
    → ((k : CellKind) × (steps_kind results ss n ≡ Some k)) ⊎ IsUsedIn (t ∷ os) n

-- there is such a temporary
abbrev pub MentionedAreCounted : Type 0
MentionedAreCounted =
    (results : ℕ → Option CellKind) (ss : Steps) (n : ℕ) (k : CellKind) → steps_kind results ss n ≡ Some k → n < steps_count ss
