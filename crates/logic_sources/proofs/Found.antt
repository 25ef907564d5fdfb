-- What is found by its number.
use Rattle.std.proofs.Common.{◌≡◌, ◌<◌, ◌≤◌, ℕ, zero, suc, List, [], ◌∷◌, map, length, get_or, Option, Some, None, refl, sym, ap, arith}
use Rattle.std.specs.Option.{option_map, option_copied}
use Rattle.std.specs.Borrow.{Bor}
use Rattle.program_trees.specs.Files.{at}

pub here : {X Y : Type 0} (f : X → Y) (xs : List (Option X)) (i : ℕ) (o : Option X) → i < length xs → o ≡ get_or xs i o → at (map (option_map f) xs) i ≡ option_map f o
here f [] i o lt e = absurd (omega (arith, lt))
here f (x ∷ xs) zero o lt e = sym (ap (option_map f) e)
here f (x ∷ xs) (suc i) o lt e = here f xs i o (omega (arith, lt)) e

pub missing : {X Y : Type 0} (f : X → Y) (xs : List (Option X)) (i : ℕ) → length xs ≤ i → at (map (option_map f) xs) i ≡ None
missing f [] i le = refl
missing f (x ∷ xs) zero le = absurd (omega (arith, le))
missing f (x ∷ xs) (suc i) le = missing f xs i (omega (arith, le))

pub borrowed : {X Y : Type 0} (f : X → Y) (o : Option (Bor X)) → option_map (λ (x : Bor X). f x.now) o ≡ option_map f (option_copied o)
borrowed f None = refl
borrowed f (Some x) = refl
