-- Lists: members, places, tests.
use Rattle.std.proofs.Common.{◌≡◌, ◌⊎◌, ℕ, zero, suc, Bool, true, false, ◌||◌, List, [], ◌∷◌, ◌++◌, map, length, Some, None, refl, sym, ap, ◌∙◌, inl, inr, ⊎_elim}
use Rattle.walk_steps.specs.State.{at_or, put, restore, In}

pub cons_parts : {X : Type 0} {x y : X} {xs ys : List X} → (x ∷ xs) ≡ (y ∷ ys) → (x ≡ y) × (xs ≡ ys)
cons_parts e = (cc, cc)

pub some_parts : {X : Type 0} {x y : X} → Some x ≡ Some y → x ≡ y
some_parts e = cc

pub none_some : {X : Type 0} {x : X} → None ≡ Some x → ⊥
none_some e = cc

-- ---- members

pub in_front : {X : Type 0} (x : X) (xs ys : List X) → In x xs → In x (xs ++ ys)
in_front x [] ys m = absurd m
in_front x (y ∷ xs) ys (inl e) = inl e
in_front x (y ∷ xs) ys (inr m) = inr (in_front x xs ys m)

pub in_back : {X : Type 0} (x : X) (xs ys : List X) → In x ys → In x (xs ++ ys)
in_back x [] ys m = m
in_back x (y ∷ xs) ys m = inr (in_back x xs ys m)

pub in_either : {X : Type 0} (x : X) (xs ys : List X) → In x (xs ++ ys) → In x xs ⊎ In x ys
in_either x [] ys m = inr m
in_either x (y ∷ xs) ys (inl e) = inl (inl e)
in_either x (y ∷ xs) ys (inr m) = ⊎_elim (λ a. inl (inr a)) (λ b. inr b) (in_either x xs ys m)

pub in_map : {X Y : Type 0} (f : X → Y) (x : X) (xs : List X) → In x xs → In (f x) (map f xs)
in_map f x [] m = absurd m
in_map f x (y ∷ ys) (inl e) = inl (ap f e)
in_map f x (y ∷ ys) (inr m) = inr (in_map f x ys m)

pub map_in : {X Y : Type 0} (f : X → Y) (y : Y) (xs : List X) → In y (map f xs) → (x : X) × In x xs × (f x ≡ y)
map_in f y [] m = absurd m
map_in f y (x ∷ xs) (inl e) = (x, inl refl, sym e)
map_in f y (x ∷ xs) (inr m) = let r = map_in f y xs m in (r.0, inr r.1, r.2)

-- ---- places

pub at_map : {X Y : Type 0} (g : X → Y) (x : X) (xs : List X) (i : ℕ) → g (at_or x xs i) ≡ at_or (g x) (map g xs) i
at_map g x [] i = refl
at_map g x (y ∷ ys) zero = refl
at_map g x (y ∷ ys) (suc i) = at_map g x ys i

pub put_map : {X Y : Type 0} (g : X → Y) (xs : List X) (i : ℕ) (y : X) → map g (put xs i y) ≡ put (map g xs) i (g y)
put_map g [] i y = refl
put_map g (x ∷ xs) zero y = refl
put_map g (x ∷ xs) (suc i) y = ap (λ zs. g x ∷ zs) (put_map g xs i y)

pub put_length : {X : Type 0} (xs : List X) (i : ℕ) (y : X) → length (put xs i y) ≡ length xs
put_length [] i y = refl
put_length (x ∷ xs) zero y = refl
put_length (x ∷ xs) (suc i) y = ap suc (put_length xs i y)

pub restore_map : {X Y : Type 0} (g : X → Y) (x : X) (is : List ℕ) (old new : List X) → map g (restore x is old new) ≡ restore (g x) is (map g old) (map g new)
restore_map g x [] old new = refl
restore_map g x (i ∷ is) old new =
    restore_map g x is old (put new i (at_or x old i))
    ∙ ap (restore (g x) is (map g old)) (put_map g new i (at_or x old i) ∙ ap (put (map g new) i) (at_map g x old i))

pub restore_length : {X : Type 0} (x : X) (is : List ℕ) (old new : List X) → length (restore x is old new) ≡ length new
restore_length x [] old new = refl
restore_length x (i ∷ is) old new = restore_length x is old (put new i (at_or x old i)) ∙ put_length new i (at_or x old i)

-- ---- tests

pub or_parts : (a b : Bool) → (a || b) ≡ true → (a ≡ true) ⊎ (b ≡ true)
or_parts true b h = inl refl
or_parts false b h = inr h

pub map_both : {X Y : Type 0} (f : X → Y) (xs ys : List X) → map f (xs ++ ys) ≡ map f xs ++ map f ys
map_both f [] ys = refl
map_both f (x ∷ xs) ys = ap (λ zs. f x ∷ zs) (map_both f xs ys)
