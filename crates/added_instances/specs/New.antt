-- Whether a formula is new.
use Rattle.std.specs.Prelude.{◌≡◌, ℕ, ◌<◌, ◌==◌, Bool, true, false, ◌||◌, List, [], ◌∷◌, ◌++◌, length, get_or, Option, Some, None}
use Rattle.qed_terms.specs.Tree.{Tree}
use Rattle.tree_places.specs.Tables.{Node, tree_at}
use Rattle.instance_rows.specs.Round.{is_old}

-- none where the formula is `true` or there, and else its place in the table
abbrev pub IsNew : List Node → (there : List Tree) → Tree → Option ℕ → Type 0
IsNew ns there f None = is_old there f ≡ true
IsNew ns there f (Some p) = (is_old there f ≡ false) × (p < length ns) × (tree_at ns p ≡ f)

-- an id is kept and its place marked, where there is one
abbrev pub IsKeptAt : {Id : Type 0} → (marks now : List Bool) → (ids more : List Id) → Id → Option ℕ → Type 0
IsKeptAt marks now ids more id None = (now ≡ marks) × (more ≡ ids)
IsKeptAt marks now ids more id (Some p) = ((k : ℕ) → get_or now k false ≡ ((k == p) || get_or marks k false)) × (more ≡ ids ++ id ∷ [])
