-- Functions of a file by their numbers, and which of them call each other.
use Rattle.std.specs.Prelude.{ℕ, zero, suc, ◌==◌, Bool, false, List, [], ◌∷◌, Option, Some, None, map}

-- ---- by a number

-- the item at a place; nothing past the end
abbrev pub at : {X : Type 0} → List (Option X) → ℕ → Option X
at [] n = None
at (x ∷ xs) zero = x
at (x ∷ xs) (suc n) = at xs n

-- ---- clusters

abbrev pub same_cluster : (cluster other : Option ℕ) → Bool
same_cluster (Some k) (Some j) = k == j
same_cluster (Some k) None = false
same_cluster None j = false

-- two functions are in one cluster
abbrev pub in_cluster_of : List (Option ℕ) → (caller callee : ℕ) → Bool
in_cluster_of clusters f g = same_cluster (at clusters f) (at clusters g)
