-- Items at places of lists.
use Rattle.std.proofs.Common.{◌≡◌, ◌⊎◌, inl, inr, ℕ, zero, suc, ◌+◌, ◌<◌, ◌≤◌, ◌==◌, Bool, true, false, length, get_or, take, drop, map, List, [], ◌∷◌, ◌++◌, refl, sym, ◌∙◌, ap, subst, arith}
use Rattle.std.specs.Prelude.{Option, Some, None, slice_get}

pub get_mapped : {A B : Type 0} (f : A → B) (xs : List A) (k : ℕ) (x : A) → k < length xs → x ≡ get_or xs k x → slice_get (map f xs) k ≡ Some (f x)
get_mapped f [] k x l e = absurd (omega arith)
get_mapped f (y ∷ xs) zero x l e = ap (λ z. Some (f z)) (sym e)
get_mapped f (y ∷ xs) (suc k) x l e = get_mapped f xs k x (omega arith) e

pub below_mapped : {A B : Type 0} (f : A → B) (xs : List A) (k : ℕ) (y : B) → slice_get (map f xs) k ≡ Some y → k < length xs
below_mapped f [] k y e = absurd cc
below_mapped f (x ∷ xs) zero y e = omega arith
below_mapped f (x ∷ xs) (suc k) y e = let l = below_mapped f xs k y e in omega arith

pub get_default : {A : Type 0} (xs : List A) (k : ℕ) (x d : A) → slice_get xs k ≡ Some x → get_or xs k d ≡ x
get_default [] k x d e = absurd cc
get_default (y ∷ xs) zero x d e = cc
get_default (y ∷ xs) (suc k) x d e = get_default xs k x d e

pub place_below : {A : Type 0} (xs : List A) (k : ℕ) (y : A) → slice_get xs k ≡ Some y → k < length xs
place_below [] k y e = absurd cc
place_below (x ∷ xs) zero y e = omega arith
place_below (x ∷ xs) (suc k) y e = let l = place_below xs k y e in omega arith

pub one_item : {A : Type 0} (o : Option A) (x y : A) → o ≡ Some x → o ≡ Some y → x ≡ y
one_item o x y d e = cc

pub take_next : (xs : List ℕ) (i : ℕ) → i < length xs → take (i + 1) xs ≡ take i xs ++ get_or xs i 0 ∷ []
take_next xs i k = let m : suc i ≡ i + 1 = omega arith in ap (λ n. take n xs) (sym m) ∙ go xs i k
  where
    go : (xs : List ℕ) (i : ℕ) → i < length xs → take (suc i) xs ≡ take i xs ++ get_or xs i 0 ∷ []
    go [] i k = absurd (omega arith)
    go (y ∷ xs) zero k = refl
    go (y ∷ xs) (suc i) k = ap (λ z. y ∷ z) (go xs i (omega arith))

pub map_more : {A B : Type 0} (f : A → B) (xs : List A) (x : A) → map f (xs ++ x ∷ []) ≡ map f xs ++ f x ∷ []
map_more f [] x = refl
map_more f (y ∷ xs) x = ap (λ z. f y ∷ z) (map_more f xs x)

-- one item more, of which something is so
pub all_more : {A : Type 0} (P : A → Type 0) (xs : List A) (i : ℕ) (x : A) → slice_get xs i ≡ Some x → P x → ((k : ℕ) (y : A) → k < i → slice_get xs k ≡ Some y → P y) → (k : ℕ) (y : A) → k < i + 1 → slice_get xs k ≡ Some y → P y
all_more {A} P xs i x e p so_far k y l g = go (k == i) refl
  where
    go : (b : Bool) → (k == i) ≡ b → P y
    go true q =
        let same : k ≡ i = grind (arith, q) in
        let one : x ≡ y = one_item (slice_get xs i) x y e (ap (slice_get xs) (sym same) ∙ g) in
        subst P one p
    go false q = so_far k y (grind (arith, q, l)) g

pub all_so : {A : Type 0} (P : A → Type 0) (xs : List A) (n : ℕ) → length xs ≤ n → ((k : ℕ) (y : A) → k < n → slice_get xs k ≡ Some y → P y) → (k : ℕ) (y : A) → slice_get xs k ≡ Some y → P y
all_so P xs n l so_far k y e = so_far k y (let b = place_below xs k y e in omega arith) e

pub take_whole : {A : Type 0} (xs : List A) (n : ℕ) → length xs ≤ n → take n xs ≡ xs
take_whole [] zero l = refl
take_whole [] (suc n) l = refl
take_whole (x ∷ xs) zero l = absurd (omega arith)
take_whole (x ∷ xs) (suc n) l = ap (λ z. x ∷ z) (take_whole xs n (omega arith))

pub drop_next : {A : Type 0} (xs : List A) (i : ℕ) (x : A) → i < length xs → x ≡ get_or xs i x → drop i xs ≡ x ∷ drop (i + 1) xs
drop_next {A} xs i x k e = let m : suc i ≡ i + 1 = omega arith in go xs i k e ∙ ap (λ n. x ∷ drop n xs) m
  where
    go : (xs : List A) (i : ℕ) → i < length xs → x ≡ get_or xs i x → drop i xs ≡ x ∷ drop (suc i) xs
    go [] i k e = absurd (omega arith)
    go (y ∷ xs) zero k e = ap (λ z. z ∷ xs) (sym e)
    go (y ∷ xs) (suc i) k e = go xs i (omega arith) e

pub length_mapped : {A B : Type 0} (f : A → B) (xs : List A) (n : ℕ) → length xs ≤ n → length (map f xs) ≤ n
length_mapped f xs n l = let e = same f xs in omega arith
  where
    same : {A B : Type 0} (f : A → B) (xs : List A) → length (map f xs) ≡ length xs
    same f [] = refl
    same f (x ∷ xs) = ap suc (same f xs)

pub next_or : (i k : ℕ) → k < i + 1 → (k ≡ i) ⊎ (k < i)
next_or i k l = go (k == i) refl
  where
    go : (b : Bool) → (k == i) ≡ b → (k ≡ i) ⊎ (k < i)
    go true e = inl (grind (arith, e))
    go false e = inr (grind (arith, e, l))

pub get_mapped_or : {A B : Type 0} (f : A → B) (xs : List A) (k : ℕ) (d : A) → k < length xs → slice_get (map f xs) k ≡ Some (f (get_or xs k d))
get_mapped_or f [] k d l = absurd (omega arith)
get_mapped_or f (y ∷ xs) zero d l = refl
get_mapped_or f (y ∷ xs) (suc k) d l = get_mapped_or f xs k d (omega arith)

pub length_map : {A B : Type 0} (f : A → B) (xs : List A) → length (map f xs) ≡ length xs
length_map f [] = refl
length_map f (x ∷ xs) = ap suc (length_map f xs)
