-- Items of lists by their numbers.
use Rattle.std.proofs.Common.{◌≡◌, ℕ, zero, suc, ◌+◌, ◌-◌, ◌<◌, ◌≤◌, List, [], ◌∷◌, ◌++◌, length, take, Option, Some, None, option_map, option_and_then, slice_get, refl, sym, ap, ◌∙◌, subst, arith}

pub get_front : {X : Type 0} (xs ys : List X) (i : ℕ) (x : X) → slice_get (xs ++ ys) i ≡ Some x → i < length xs → slice_get xs i ≡ Some x
get_front [] ys i x e less = absurd (none i less)
  where
    none : (i : ℕ) → i < 0 → ⊥
    none i less = omega (arith, less)
get_front (a ∷ xs) ys zero x e less = e
get_front (a ∷ xs) ys (suc i) x e less = let l : i < length xs = omega (arith, less) in get_front xs ys i x e l

pub get_behind : {X : Type 0} (xs ys : List X) (i : ℕ) (x : X) → slice_get (xs ++ ys) i ≡ Some x → length xs ≤ i → slice_get ys (i - length xs) ≡ Some x
get_behind [] ys i x e le = let z : i - 0 ≡ i = omega arith in subst (λ k. slice_get ys k ≡ Some x) (sym z) e
get_behind (a ∷ xs) ys zero x e le = absurd (none (length xs) le)
  where
    none : (n : ℕ) → suc n ≤ 0 → ⊥
    none n le = omega (arith, le)
get_behind (a ∷ xs) ys (suc i) x e le =
    let l : length xs ≤ i = omega (arith, le) in
    subst (λ k. slice_get ys k ≡ Some x) (less i (length xs)) (get_behind xs ys i x e l)
  where
    less : (i n : ℕ) → i - n ≡ suc i - suc n
    less i n = omega arith

pub get_after : {X : Type 0} (xs ys : List X) (i : ℕ) (x : X) → slice_get ys i ≡ Some x → slice_get (xs ++ ys) (i + length xs) ≡ Some x
get_after [] ys i x e = let z : i + 0 ≡ i = omega arith in subst (λ k. slice_get ys k ≡ Some x) (sym z) e
get_after (a ∷ xs) ys i x e = subst (λ k. slice_get (a ∷ (xs ++ ys)) k ≡ Some x) (more i (length xs)) (get_after xs ys i x e)
  where
    more : (i n : ℕ) → suc (i + n) ≡ i + suc n
    more i n = omega arith

-- among the first ones
pub take_less : {X : Type 0} (n : ℕ) (xs : List X) (i : ℕ) (x : X) → slice_get (take n xs) i ≡ Some x → i < n
take_less zero xs i x e = absurd cc
take_less (suc n) [] i x e = absurd cc
take_less (suc n) (a ∷ xs) zero x e = omega arith
take_less (suc n) (a ∷ xs) (suc i) x e = let l = take_less n xs i x e in omega (arith, l)

pub take_get : {X : Type 0} (n : ℕ) (xs : List X) (i : ℕ) (x : X) → slice_get (take n xs) i ≡ Some x → slice_get xs i ≡ Some x
take_get zero xs i x e = absurd cc
take_get (suc n) [] i x e = absurd cc
take_get (suc n) (a ∷ xs) zero x e = e
take_get (suc n) (a ∷ xs) (suc i) x e = take_get n xs i x e

pub get_take : {X : Type 0} (n : ℕ) (xs : List X) (i : ℕ) (x : X) → slice_get xs i ≡ Some x → i < n → slice_get (take n xs) i ≡ Some x
get_take zero xs i x e less = absurd (none i less)
  where
    none : (i : ℕ) → i < 0 → ⊥
    none i less = omega (arith, less)
get_take (suc n) [] i x e less = absurd cc
get_take (suc n) (a ∷ xs) zero x e less = e
get_take (suc n) (a ∷ xs) (suc i) x e less = let l : i < n = omega (arith, less) in get_take n xs i x e l

pub take_whole : {X : Type 0} (xs : List X) → take (length xs) xs ≡ xs
take_whole [] = refl
take_whole (x ∷ xs) = ap (λ ys. x ∷ ys) (take_whole xs)

-- ---- options

pub node_given : {X Y : Type 0} (f : X → Option Y) (o : Option X) (y : Y) → option_and_then f o ≡ Some y → (x : X) × (o ≡ Some x) × (f x ≡ Some y)
node_given f (Some x) y e = (x, refl, e)
node_given f None y e = absurd cc

rest_given : {X : Type 0} (w : X) (o : Option (List X)) (us : List X) → option_map (λ ws. w ∷ ws) o ≡ Some us → (vs : List X) × (o ≡ Some vs) × (us ≡ w ∷ vs)
rest_given w (Some vs) us e = (vs, refl, cc)
rest_given w None us e = absurd cc

pub more_given : {X : Type 0} (o : Option X) (f : X → Option (List X)) (us : List X) → option_and_then (λ w. option_map (λ ws. w ∷ ws) (f w)) o ≡ Some us
    → (v : X) × (vs : List X) × (o ≡ Some v) × (f v ≡ Some vs) × (us ≡ v ∷ vs)
more_given (Some v) f us e = let r = rest_given v (f v) us e in (v, r.0, refl, r.1, r.2)
more_given None f us e = absurd cc

pub more_made : {X : Type 0} (o : Option X) (f : X → Option (List X)) (v : X) (vs : List X) → o ≡ Some v → f v ≡ Some vs
    → option_and_then (λ w. option_map (λ ws. w ∷ ws) (f w)) o ≡ Some (v ∷ vs)
more_made o f v vs e k = ap (option_and_then (λ w. option_map (λ ws. w ∷ ws) (f w))) e ∙ ap (option_map (λ ws. v ∷ ws)) k
