-- Same terms of a branch, by places.
use Rattle.std.specs.Prelude.{◌≡◌, ◌↔◌, ◌==◌, ◌&&◌, ◌<◌, ◌≤◌, nat_lt, Bool, true, ℕ, List, length}
use Rattle.qed_terms.specs.Tree.{Tree}
use Rattle.same_places.specs.Same.{at}
use Rattle.same_terms.specs.SameTerms.{InBranch, SameTerm}
use Rattle.tree_places.specs.Tables.{Node, tree_at, Grows}
use Rattle.branch_rows.specs.Marks.{mark_at}

-- the one place is marked, and both are of one class
abbrev pub one_class : List Bool → List ℕ → ℕ → ℕ → Bool
one_class marks classes i j = mark_at marks i && (at classes i == at classes j)

-- and both have a class
abbrev pub same_at : List Bool → List ℕ → ℕ → ℕ → Bool
same_at marks classes i j = nat_lt i (length classes) && (nat_lt j (length classes) && one_class marks classes i j)

-- The terms of a branch have places below the number of classes, and those are same whose places are marked and of one class. It stays so where nodes come
-- behind.
pub record IsClosed (ls : List Tree) (ns : List Node) (marks : List Bool) (classes : List ℕ) : Type 0 where
  pub all : length marks ≡ length classes
  pub within : length classes ≤ length ns
  pub place : (t : Tree) → InBranch ls t → (k : ℕ) × (k < length classes) × (tree_at ns k ≡ t)
  pub same : (i j : ℕ) → i < length classes → j < length classes → (one_class marks classes i j ≡ true) ↔ SameTerm ls (tree_at ns i) (tree_at ns j)

-- where nodes come behind, classes stay closed
abbrev pub StayClosed : Type 0
StayClosed = (ls : List Tree) (ns ms : List Node) (marks : List Bool) (classes : List ℕ) → Grows ns ms → IsClosed ls ns marks classes → IsClosed ls ms marks classes
