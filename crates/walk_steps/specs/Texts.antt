-- What goals are as texts: well formed, and of names that were given out. That forms keep to it is a premise of its own.
use Rattle.std.specs.Prelude.{◌≡◌, ◌⊎◌, ℕ, suc, true, List, [], ◌∷◌}
use Rattle.qed_terms.specs.declared.head.Sort.{Sort}
use Rattle.qed_terms.specs.Tree.{Tree}
use Rattle.qed_terms.specs.Names.{is_name}
use Rattle.qed_terms.specs.WellFormed.{int, formula, fits, is_goal}
use Rattle.qed_terms.specs.Free.{is_free}
use Rattle.qed_terms.specs.Fresh.{fresh_name}
use Rattle.walk_steps.specs.State.{In}
use Rattle.walk_steps.specs.Forms.{Slots, Form, Fact, forms}
use Rattle.walk_steps.specs.Step.{Change, keeps, fresh, raised, Step, skip, halt, seq, ask, know, set, change, choose, block, exit, scope, remember}
use Rattle.walk_steps.specs.World.{large_base}
use Rattle.walk_steps.specs.Walk.{Goal, formula_of}
use Rattle.walk_steps.specs.Laws.{Start, goals}

-- of such terms in the slots, all that a step writes is such a term or formula
module _ (Term Formula : Tree → Type 0) where
  abbrev pub AllTerms : List Tree → Type 0
  AllTerms [] = Unit {0}
  AllTerms (t ∷ ts) = Term t × AllTerms ts

  abbrev pub AllSlots : List Slots → Type 0
  AllSlots [] = Unit {0}
  AllSlots (ts ∷ ss) = AllTerms ts × AllSlots ss

  abbrev pub AllWrite : List Form → Type 0
  AllWrite [] = Unit {0}
  AllWrite (f ∷ fs) = ((ss : List Slots) → AllSlots ss → Formula (f.written ss)) × AllWrite fs

  abbrev pub FactsWrite : List Fact → Type 0
  FactsWrite [] = Unit {0}
  FactsWrite (f ∷ fs) = ((ss : List Slots) (t : Tree) → AllSlots ss → Term t → Formula (f.written ss t)) × FactsWrite fs

  abbrev pub ChangesWrite : List Change → Type 0
  ChangesWrite [] = Unit {0}
  ChangesWrite (keeps ∷ cs) = ChangesWrite cs
  ChangesWrite (fresh fs ∷ cs) = FactsWrite fs × ChangesWrite cs
  ChangesWrite (raised ∷ cs) = ChangesWrite cs

  abbrev pub Writes : Step → Type 0
  Writes skip = Unit {0}
  Writes halt = Unit {0}
  Writes (seq a b) = Writes a × Writes b
  Writes (ask cs) = AllWrite (forms cs)
  Writes (know fs) = AllWrite fs
  Writes (set i u) = (ss : List Slots) → AllSlots ss → Term (u.written ss)
  Writes (change cs) = ChangesWrite cs
  Writes (choose f a b) = AllWrite (f ∷ []) × Writes a × Writes b
  Writes (block a) = Writes a
  Writes (exit k) = Unit {0}
  Writes (scope is a) = Writes a
  Writes (remember a) = Writes a

-- ---- well formed goals

abbrev pub IsIntTerm : Tree → Type 0
IsIntTerm t = fits int t ≡ true

abbrev pub IsFormula : Tree → Type 0
IsFormula f = fits formula f ≡ true

abbrev pub AreNames : List (List ℕ) → Type 0
AreNames [] = Unit {0}
AreNames (b ∷ bases) = (is_name b ≡ true) × AreNames bases

-- Where forms are well formed over well formed slots, the goals are.
abbrev pub GoalsAreWellFormed : Type 0
GoalsAreWellFormed = (bases : List (List ℕ)) (e : Start) (a : Step) → AreNames bases → AllWrite IsIntTerm IsFormula e.facts → Writes IsIntTerm IsFormula a
    → (g : Goal) → In g (goals bases e a) → is_goal g.known g.claim ≡ true

-- ---- names

-- the base of a slot, or a fresh name over one or of a large value
abbrev pub IsGiven : List (List ℕ) → List ℕ → Type 0
IsGiven bases x = In x bases ⊎ ((b : List ℕ) × In b (large_base ∷ bases) × (n : ℕ) × (x ≡ fresh_name b (suc n)))

abbrev pub NamesAreGiven : List (List ℕ) → Tree → Type 0
NamesAreGiven bases t = (x : List ℕ) (s : Sort) → is_free x s t ≡ true → IsGiven bases x

-- Where forms have no free names but those in the slots, all free names of a goal were given out.
abbrev pub GoalsHaveGivenNames : Type 0
GoalsHaveGivenNames = (bases : List (List ℕ)) (e : Start) (a : Step) → AllWrite (NamesAreGiven bases) (NamesAreGiven bases) e.facts
    → Writes (NamesAreGiven bases) (NamesAreGiven bases) a → (g : Goal) → In g (goals bases e a) → NamesAreGiven bases (formula_of g)
