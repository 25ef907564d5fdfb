-- Lists by the items at their places.
use Rattle.std.proofs.Common.{◌≡◌, ◌<◌, ℕ, zero, suc, ◌+◌, List, [], ◌∷◌, ◌++◌, map, length, Some, slice_get, refl, ap, arith}
use Rattle.std.proofs.lemmas.Option.{none-some, same_Some}
use Rattle.walk_steps.specs.State.{at_or, put}

-- ---- one item put

pub put_here : {X : Type 0} (d : X) (xs : List X) (i : ℕ) (y : X) → i < length xs → at_or d (put xs i y) i ≡ y
put_here d [] i y l = absurd (omega (arith, l))
put_here d (x ∷ xs) zero y l = refl
put_here d (x ∷ xs) (suc i) y l = put_here d xs i y (omega (arith, l))

pub put_elsewhere : {X : Type 0} (d : X) (xs : List X) (i j : ℕ) (y : X) → (i ≡ j → ⊥) → at_or d (put xs i y) j ≡ at_or d xs j
put_elsewhere d [] i j y n = refl
put_elsewhere d (x ∷ xs) zero zero y n = absurd (n refl)
put_elsewhere d (x ∷ xs) zero (suc j) y n = refl
put_elsewhere d (x ∷ xs) (suc i) zero y n = refl
put_elsewhere d (x ∷ xs) (suc i) (suc j) y n = put_elsewhere d xs i j y (λ e. n (ap suc e))

-- ---- what stands at a place

pub found_below : {X : Type 0} (xs : List X) (i : ℕ) (x : X) → slice_get xs i ≡ Some x → i < length xs
found_below [] i x e = absurd (none-some x e)
found_below (y ∷ xs) zero x e = omega arith
found_below (y ∷ xs) (suc i) x e = let h = found_below xs i x e in omega (arith, h)

-- in the first of two lists, and in the second one
pub in_first : {X : Type 0} (xs ys : List X) (i : ℕ) (x : X) → slice_get xs i ≡ Some x → slice_get (xs ++ ys) i ≡ Some x
in_first [] ys i x e = absurd (none-some x e)
in_first (y ∷ xs) ys zero x e = e
in_first (y ∷ xs) ys (suc i) x e = in_first xs ys i x e

pub in_second : {X : Type 0} (xs ys : List X) (i j : ℕ) → i ≡ length xs + j → slice_get (xs ++ ys) i ≡ slice_get ys j
in_second [] ys i j e = ap (slice_get ys) (omega (arith, e))
in_second (x ∷ xs) ys zero j e = absurd (omega (arith, e))
in_second (x ∷ xs) ys (suc i) j e = in_second xs ys i j (omega (arith, e))

pub mapped_at : {X Y : Type 0} (f : X → Y) (d : Y) (xs : List X) (i : ℕ) (x : X) → slice_get xs i ≡ Some x → at_or d (map f xs) i ≡ f x
mapped_at f d [] i x e = absurd (none-some x e)
mapped_at f d (y ∷ xs) zero x e = ap f (same_Some y x e)
mapped_at f d (y ∷ xs) (suc i) x e = mapped_at f d xs i x e

-- two lists, as long as a third one, that hold the same at the places of its items
pub same_lists : {X Y : Type 0} (d : Y) (xs : List X) (ys zs : List Y) → length ys ≡ length xs → length zs ≡ length xs
    → ((i : ℕ) (x : X) → slice_get xs i ≡ Some x → at_or d ys i ≡ at_or d zs i) → ys ≡ zs
same_lists d [] [] [] k l same = refl
same_lists d [] (y ∷ ys) zs k l same = absurd (omega (arith, k))
same_lists d [] [] (z ∷ zs) k l same = absurd (omega (arith, l))
same_lists d (x ∷ xs) [] zs k l same = absurd (omega (arith, k))
same_lists d (x ∷ xs) (y ∷ ys) [] k l same = absurd (omega (arith, l))
same_lists d (x ∷ xs) (y ∷ ys) (z ∷ zs) k l same =
    let first = same 0 x refl in
    let rest = same_lists d xs ys zs (omega (arith, k)) (omega (arith, l)) (λ i a e. same (suc i) a e) in
    λ i. first i ∷ rest i
