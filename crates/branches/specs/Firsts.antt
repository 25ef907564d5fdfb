-- The place of the first of a list.
use Rattle.std.specs.Prelude.{ℕ, ◌<◌, List, length, take, get_or, Option, Some, None}
use Rattle.branches.specs.Steps.{NoneSo}

-- The place of the first of which it is so: of none before it, and of what stands there. Or that it is so of none.
abbrev pub IsFirst : {A : Type 0} → (A → Type 0) → List A → Option ℕ → Type 0
IsFirst so xs None = NoneSo so xs
IsFirst {A} so xs (Some at) = (at < length xs) × NoneSo so (take at xs) × ((d : A) → so (get_or xs at d))
