-- Links over numbered classes that stand for the links of a branch, whatever the numbers are.
use Rattle.std.specs.Prelude.{◌≡◌, ◌⊎◌, ◌↔◌, ℕ, ◌<◌, pos, List, [], ◌∷◌, slice_get, Some}
use Rattle.qed_terms.specs.Tree.{Tree}
use Rattle.linear_chains.specs.Links.{Link, times_at, IsOrdered}
use Rattle.same_terms.specs.SameTerms.{InBranch, SameTerm}
use Rattle.same_terms.specs.Clashes.{AddUp}
use Rattle.branch_links.specs.BranchLinks.{IsAtom, BranchLink, IsLink}

-- Places that have all terms of a branch, and a class for each, of which two are one exactly where the terms are same.
pub record TellApart (ls : List Tree) (count : ℕ) (tree : ℕ → Tree) (class : ℕ → ℕ) : Type 0 where
  pub place : (t : Tree) → InBranch ls t → (i : ℕ) × (i < count) × (tree i ≡ t)
  pub same : (i j : ℕ) → i < count → j < count → InBranch ls (tree i) → (class i ≡ class j) ↔ SameTerm ls (tree i) (tree j)

-- the coefficient of a class is that of its atoms, and no other class has one
pub record StandsFor (ls : List Tree) (count : ℕ) (tree : ℕ → Tree) (class : ℕ → ℕ) (l : Link) (m : BranchLink) : Type 0 where
  pub bound : l.bound ≡ m.bound
  pub ordered : IsOrdered (l.form)
  pub times : (i : ℕ) → i < count → IsAtom ls (tree i) → AddUp (SameTerm ls) (tree i) (m.parts) (times_at (l.form) (class i))
  pub atoms : (c : ℕ) → (times_at (l.form) c ≡ pos 0) ⊎ ((i : ℕ) × (i < count) × IsAtom ls (tree i) × (class i ≡ c))

-- each is a link of the branch, of the literal beside it, and each link of the branch is one of them
pub record StandForAll (ls : List Tree) (count : ℕ) (tree : ℕ → Tree) (class : ℕ → ℕ) (links : List Link) (literals : List Tree) : Type 0 where
  pub each : (k : ℕ) (l : Link) → slice_get links k ≡ Some l → (m : BranchLink) × IsLink ls m × StandsFor ls count tree class l m × (slice_get literals k ≡ Some (m.literal))
  pub every : (m : BranchLink) → IsLink ls m → (k : ℕ) × (l : Link) × (slice_get links k ≡ Some l) × StandsFor ls count tree class l m

-- what stands at these places
abbrev pub At : {A : Type 0} → List A → List ℕ → List A → Type 0
At xs [] [] = Unit {0}
At xs [] (y ∷ ys) = ⊥
At xs (k ∷ ks) [] = ⊥
At xs (k ∷ ks) (y ∷ ys) = (slice_get xs k ≡ Some y) × At xs ks ys
