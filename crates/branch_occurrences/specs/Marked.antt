-- Ids whose trees stand at places of a table that are marked.
use Rattle.std.specs.Prelude.{◌≡◌, ℕ, ◌<◌, ◌==◌, Bool, false, ◌||◌, List, [], ◌∷◌, map, length, get_or, All}
use Rattle.qed_terms.specs.Tree.{Tree}
use Rattle.tree_places.specs.Tables.{Node, tree_at}

-- the place is one of these
abbrev pub holds : ℕ → List ℕ → Bool
holds k [] = false
holds k (p ∷ ps) = (k == p) || holds k ps

-- The trees of the ids stand at the places that are marked, and at no others.
pub record AreMarked {Id : Type 0} (tree : Id → Tree) (ns : List Node) (left : List Id) (marks : List Bool) : Type 0 where
  pub places : List ℕ
  pub below : All (λ k. k < length ns) places
  pub trees : map (tree_at ns) places ≡ map tree left
  pub marked : (k : ℕ) → get_or marks k false ≡ holds k places
