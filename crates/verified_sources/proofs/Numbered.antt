-- What is found by its number.
use Rattle.std.proofs.Common.{◌≡◌, ◌<◌, ◌≤◌, ℕ, zero, suc, List, [], ◌∷◌, map, length, get_or, Option, Some, None, refl, sym, ap, arith}
use Rattle.std.specs.Option.{option_map}
use Rattle.program_trees.specs.Files.{at}

pub here : {X : Type 0} (xs : List (Option X)) (i : ℕ) (o : Option X) → i < length xs → o ≡ get_or xs i o → at xs i ≡ o
here [] i o lt e = absurd (omega (arith, lt))
here (x ∷ xs) zero o lt e = sym e
here (x ∷ xs) (suc i) o lt e = here xs i o (omega (arith, lt)) e

pub missing : {X : Type 0} (xs : List (Option X)) (i : ℕ) → length xs ≤ i → at xs i ≡ None
missing [] i le = refl
missing (x ∷ xs) zero le = absurd (omega (arith, le))
missing (x ∷ xs) (suc i) le = missing xs i (omega (arith, le))

-- seen through a function
pub seen : {X Y : Type 0} (f : X → Y) (xs : List (Option X)) (i : ℕ) → at (map (option_map f) xs) i ≡ option_map f (at xs i)
seen f [] i = refl
seen f (x ∷ xs) zero = refl
seen f (x ∷ xs) (suc i) = seen f xs i
