-- What the laws of this crate say, whatever closes a branch and whatever a round adds.
use Rattle.std.specs.Prelude.{◌≡◌, ℕ, true, List}
use Rattle.qed_terms.specs.declared.verdict.Verdict.{Verdict}
use Rattle.qed_terms.specs.Meaning.{Values}
use Rattle.qed_terms.specs.Setting.{Setting, Valid, is_regular, world_of}
use Rattle.qed_terms.specs.Tree.{Tree}
use Rattle.branches.specs.Branch.{Branch, AreTrue, IsTrueUnder}
use Rattle.branches.specs.Expansion.{End, all_closed}
use Rattle.branches.specs.Ids.{end_of}
use Rattle.branches.specs.Steps.{LeadsToOne}
use Rattle.branch_changes.specs.Laws.{Refutes}
use Rattle.expansion_ends.specs.Goals.{proving, Expands, IsVerdictOf}

module _ (closed : Branch → Type 0) (round : Setting → Branch → List Tree → Type 0) where
  -- In regular settings what closes a branch leaves it no model, and what a round adds follows from it.
  pub record AreSound : Type 0 where
    pub closes : (s : Setting) → is_regular s ≡ true → Refutes (world_of s) closed
    pub adds : (s : Setting) → is_regular s ≡ true → (b : Branch) (fs : List Tree) → round s b fs → (env : Values) → IsTrueUnder (world_of s) env b → AreTrue (world_of s) env fs

  -- a goal whose expansion closes is valid
  abbrev pub ClosedIsValid : Type 0
  ClosedIsValid = AreSound → (s : Setting) → is_regular s ≡ true → (fuel budget : ℕ) (goal : Tree) → Expands (proving closed round) s fuel budget goal all_closed → Valid s goal

  -- an expansion comes to one end
  abbrev pub ComesToOneEnd : Type 0
  ComesToOneEnd =
      (s : Setting) → LeadsToOne (round s) → (fuel budget : ℕ) (goal : Tree) (e d : End)
      → Expands (proving closed round) s fuel budget goal e → Expands (proving closed round) s fuel budget goal d → e ≡ d

  -- the verdict of a goal's own expansion is one on it
  abbrev pub EndsAreVerdicts : Type 0
  EndsAreVerdicts =
      AreSound → (s : Setting) → is_regular s ≡ true → LeadsToOne (round s) → (fuel budget : ℕ) (goal : Tree) (v : Verdict)
      → Expands (proving closed round) s fuel budget goal (end_of v) → IsVerdictOf (proving closed round) s fuel budget goal v
