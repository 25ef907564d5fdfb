-- The places of a branch.
use Rattle.std.specs.Prelude.{◌≡◌, ◌↔◌, ◌<◌, true, Bool, ℕ, List, map, length}
use Rattle.qed_terms.specs.Tree.{Tree}
use Rattle.same_places.specs.Same.{Pairs}
use Rattle.same_terms.specs.SameTerms.{InBranch}
use Rattle.branch_rows.specs.Marks.{mark_at}

-- the places of the rests
abbrev pub rest_places : Pairs → List ℕ
rest_places ps = map (λ (p : ℕ × ℕ). p.1) ps

-- places are marked exactly where their trees are of the branch
pub record MarkBranch (ls : List Tree) (count : ℕ) (tree : ℕ → Tree) (marks : List Bool) : Type 0 where
  pub all : length marks ≡ count
  pub each : (k : ℕ) → k < count → (mark_at marks k ≡ true) ↔ InBranch ls (tree k)
