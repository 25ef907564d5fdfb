-- Branches that are closed by their literals: these clash, or are refuted in another way, which is a parameter.
use Rattle.std.specs.Prelude.{◌≡◌, ◌⊎◌, ◌<◌, ℕ, List, [], ◌∷◌, ◌++◌, length, slice_index}
use Rattle.qed_terms.specs.Meaning.{World}
use Rattle.qed_terms.specs.Tree.{Tree}
use Rattle.same_terms.specs.Clashes.{Clash}
use Rattle.branches.specs.Branch.{Branch, branch, HasModel}

abbrev pub AreClosed : (refuted : List Tree → Type 0) → List Tree → Type 0
AreClosed refuted ls = Clash ls ⊎ refuted ls

abbrev pub IsClosedBranch : (refuted : List Tree → Type 0) → Branch → Type 0
IsClosedBranch refuted b = AreClosed refuted (b.literals)

-- with one literal more, behind the others
abbrev pub with_literal : Branch → Tree → Branch
with_literal b l = branch (b.literals ++ l ∷ []) (b.waiting)

-- a closed branch has no model
abbrev pub ClosedHasNoModel : (refuted : List Tree → Type 0) → Type 0
ClosedHasNoModel refuted = (w : World) (b : Branch) → IsClosedBranch refuted b → HasModel w b → ⊥

-- a place stands in a list
abbrev pub StandsThere : List ℕ → ℕ → Type 0
StandsThere places place = (i : ℕ) × (i < length places) × (slice_index places i ≡ place)
