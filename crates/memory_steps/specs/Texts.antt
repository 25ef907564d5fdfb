-- What goals are as texts: of such terms and formulas, where all that a step writes over such terms is such.
use Rattle.std.specs.Prelude.{◌≡◌, ◌⊎◌, ℕ, suc, Bool, true, false, List, [], ◌∷◌, map, length}
use Rattle.qed_terms.specs.declared.head.Sort.{Sort}
use Rattle.qed_terms.specs.Tree.{Tree}
use Rattle.qed_terms.specs.Names.{is_name}
use Rattle.qed_terms.specs.WellFormed.{int, mem, tab, formula, fits, is_goal}
use Rattle.qed_terms.specs.Free.{is_free}
use Rattle.qed_terms.specs.Fresh.{fresh_name}
use Rattle.walk_steps.specs.State.{In}
use Rattle.walk_steps.specs.World.{large_base}
use Rattle.walk_steps.specs.Walk.{Goal, formula_of}
use Rattle.memory_steps.specs.State.{Base}
use Rattle.memory_steps.specs.World.{count_base}
use Rattle.memory_steps.specs.Laws.{Start, table_name, OriginsFit, goals}
use Rattle.memory_steps.specs.Forms.{Mark, Slots, Form, Claim, Fact, forms}
use Rattle.memory_steps.specs.Step.{Change, keeps, fresh, raised, Step, skip, halt, seq, ask, know, set, change, choose, block, exit, scope, remember, grown, made, ended, sort_at}

-- what numbers, memories, tables and formulas are
module _ (bases : List Base) (Number Memory Table Formula : Tree → Type 0) where
  abbrev pub OfSort : (is_memory : Bool) → Tree → Type 0
  OfSort true t = Memory t
  OfSort false t = Number t

  -- a term of its sort for each slot
  abbrev pub AllTerms : List Base → List Tree → Type 0
  AllTerms [] [] = Unit {0}
  AllTerms [] (t ∷ ts) = ⊥
  AllTerms (b ∷ bs) [] = ⊥
  AllTerms (b ∷ bs) (t ∷ ts) = OfSort b.is_memory t × AllTerms bs ts

  abbrev pub AllFormulas : List Tree → Type 0
  AllFormulas [] = Unit {0}
  AllFormulas (f ∷ fs) = Formula f × AllFormulas fs

  abbrev pub AllMarks : List Mark → Type 0
  AllMarks [] = Unit {0}
  AllMarks (p ∷ ps) = Table p.table × AllMarks ps

  pub record IsWritten (ss : Slots) : Type 0 where
    pub terms : AllTerms bases ss.terms
    pub table : Table ss.table
    pub trail : AllMarks ss.trail

  abbrev pub AreWritten : List Slots → Type 0
  AreWritten [] = Unit {0}
  AreWritten (ss ∷ more) = IsWritten ss × AreWritten more

  abbrev pub AllWrite : List Form → Type 0
  AllWrite [] = Unit {0}
  AllWrite (f ∷ fs) = ((ss : List Slots) → AreWritten ss → Formula (f.written ss)) × AllWrite fs

  abbrev pub ClaimsWrite : List Claim → Type 0
  ClaimsWrite [] = Unit {0}
  ClaimsWrite (c ∷ cs) = ((ss : List Slots) → AreWritten ss → Formula (c.written ss)) × ClaimsWrite cs

  -- on a new term of this sort
  abbrev pub FactsWrite : (is_memory : Bool) → List Fact → Type 0
  FactsWrite s [] = Unit {0}
  FactsWrite s (f ∷ fs) = ((ss : List Slots) (t : Tree) → AreWritten ss → OfSort s t → Formula (f.written ss t)) × FactsWrite s fs

  abbrev pub ChangeWrites : Base → Change → Type 0
  ChangeWrites b keeps = Unit {0}
  ChangeWrites b (fresh fs) = FactsWrite b.is_memory fs
  ChangeWrites b raised = b.is_memory ≡ false

  abbrev pub ChangesWrite : List Base → List Change → Type 0
  ChangesWrite bs [] = Unit {0}
  ChangesWrite [] (c ∷ cs) = Unit {0}
  ChangesWrite (b ∷ bs) (c ∷ cs) = ChangeWrites b c × ChangesWrite bs cs

  abbrev pub Writes : Step → Type 0
  Writes skip = Unit {0}
  Writes halt = Unit {0}
  Writes (seq a b) = Writes a × Writes b
  Writes (ask cs) = AllWrite (forms cs)
  Writes (know fs) = AllWrite fs
  Writes (set i u) = (ss : List Slots) → AreWritten ss → OfSort (sort_at bases i) (u.written ss)
  Writes (change cs) = ChangesWrite bases cs
  Writes (choose f a b) = AllWrite (f ∷ []) × Writes a × Writes b
  Writes (block a) = Writes a
  Writes (exit k) = Unit {0}
  Writes (scope is a) = Writes a
  Writes (remember a) = Writes a
  Writes grown = Unit {0}
  Writes (made i l) = sort_at bases i ≡ false
  Writes (ended l) = Unit {0}

-- ---- well formed goals

abbrev pub IsNumberTerm : Tree → Type 0
IsNumberTerm t = fits int t ≡ true

abbrev pub IsMemoryTerm : Tree → Type 0
IsMemoryTerm t = fits mem t ≡ true

abbrev pub IsTableTerm : Tree → Type 0
IsTableTerm t = fits tab t ≡ true

abbrev pub IsFormula : Tree → Type 0
IsFormula f = fits formula f ≡ true

abbrev pub AreNames : List Base → Type 0
AreNames [] = Unit {0}
AreNames (b ∷ bases) = (is_name b.name ≡ true) × AreNames bases

-- Where forms are well formed over well formed slots, the goals are.
abbrev pub GoalsAreWellFormed : Type 0
GoalsAreWellFormed =
    (bases : List Base) (e : Start) (a : Step) → length e.origins ≡ length bases → OriginsFit bases e.origins → AreNames bases
    → ClaimsWrite bases IsNumberTerm IsMemoryTerm IsTableTerm IsFormula e.facts → Writes bases IsNumberTerm IsMemoryTerm IsTableTerm IsFormula a
    → (g : Goal) → In g (goals bases e a) → is_goal g.known g.claim ≡ true

-- ---- names

abbrev pub names_of : List Base → List (List ℕ)
names_of bases = map (λ (b : Base). b.name) bases

-- the base of a slot, the table at the start, or a fresh name over a base, of a large value or of a number of blocks
abbrev pub IsGiven : List Base → List ℕ → Type 0
IsGiven bases x =
    In x (table_name ∷ names_of bases) ⊎ ((b : List ℕ) × In b (large_base ∷ count_base.name ∷ names_of bases) × (n : ℕ) × (x ≡ fresh_name b (suc n)))

abbrev pub NamesAreGiven : List Base → Tree → Type 0
NamesAreGiven bases t = (x : List ℕ) (s : Sort) → is_free x s t ≡ true → IsGiven bases x

-- Where forms have no free names but those in the slots, all free names of a goal were given out.
abbrev pub GoalsHaveGivenNames : Type 0
GoalsHaveGivenNames =
    (bases : List Base) (e : Start) (a : Step) → length e.origins ≡ length bases
    → ClaimsWrite bases (NamesAreGiven bases) (NamesAreGiven bases) (NamesAreGiven bases) (NamesAreGiven bases) e.facts
    → Writes bases (NamesAreGiven bases) (NamesAreGiven bases) (NamesAreGiven bases) (NamesAreGiven bases) a
    → (g : Goal) → In g (goals bases e a) → NamesAreGiven bases (formula_of g)
