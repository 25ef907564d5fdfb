-- Flags by their numbers, where those that aren't there are not set.
use Rattle.std.proofs.Common.{◌≡◌, ℕ, zero, suc, Bool, false, List, [], ◌∷◌, ◌++◌, slice_index_or, refl}

pub one_more : (xs : List Bool) (n : ℕ) → slice_index_or (xs ++ false ∷ []) n false ≡ slice_index_or xs n false
one_more [] zero = refl
one_more [] (suc n) = refl
one_more (x ∷ xs) zero = refl
one_more (x ∷ xs) (suc n) = one_more xs n
