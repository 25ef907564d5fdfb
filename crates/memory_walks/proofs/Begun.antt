-- Lists that begin with another one, and lists seen through a function.
use Rattle.std.proofs.Common.{◌≡◌, ◌<◌, ◌≤◌, get_or, ℕ, zero, suc, Bool, true, false, List, [], ◌∷◌, ◌++◌, map, take, drop, length, Option, Some, None, refl, sym, ap, ap₂, ◌∙◌, subst, arith}
use Rattle.std.proofs.lemmas.List.{take-append-drop, take-map}
use Rattle.qed_terms.specs.Tree.{Tree}
use Rattle.walk_steps.specs.State.{at_or}
use Rattle.memory_steps.specs.World.{World}
use Rattle.walk_steps.specs.Walk.{list_of}
use Rattle.memory_walks.specs.Walks.{Begins, EndsAs}

pub begins_itself : (xs : List Tree) → Begins xs xs
begins_itself [] = refl
begins_itself (x ∷ xs) = ap (λ ys. x ∷ ys) (begins_itself xs)

pub begins_more : (xs ys : List Tree) → Begins xs (xs ++ ys)
begins_more [] ys = refl
begins_more (x ∷ xs) ys = ap (λ ys. x ∷ ys) (begins_more xs ys)

cons_parts : {X : Type 0} {x y : X} {xs ys : List X} → (x ∷ xs) ≡ (y ∷ ys) → (x ≡ y) × (xs ≡ ys)
cons_parts e = (cc, cc)

pub begins_trans : (xs zs ys : List Tree) → Begins xs zs → Begins zs ys → Begins xs ys
begins_trans [] zs ys h e = refl
begins_trans (x ∷ xs) [] ys h e = absurd cc
begins_trans (x ∷ xs) (z ∷ zs) [] h e = absurd cc
begins_trans (x ∷ xs) (z ∷ zs) (y ∷ ys) h e =
    let p = cons_parts h in let q = cons_parts e in ap₂ (λ a b. a ∷ b) (q.0 ∙ p.0) (begins_trans xs zs ys p.1 q.1)

pub begins_length : (xs ys : List Tree) → Begins xs ys → length xs ≤ length ys
begins_length [] ys h = omega arith
begins_length (x ∷ xs) [] h = absurd cc
begins_length (x ∷ xs) (y ∷ ys) h = let k = begins_length xs ys (cons_parts h).1 in omega (arith, k)

pub begins_is : (k fs : List Tree) → Begins k fs → fs ≡ k ++ drop (length k) fs
begins_is k fs h = sym (take-append-drop (length k) fs) ∙ ap (λ x. x ++ drop (length k) fs) h

pub length_map : {X Y : Type 0} (f : X → Y) (xs : List X) → length (map f xs) ≡ length xs
length_map f [] = refl
length_map f (x ∷ xs) = ap suc (length_map f xs)

pub map_drop : {X Y : Type 0} (f : X → Y) (n : ℕ) (xs : List X) → map f (drop n xs) ≡ drop n (map f xs)
map_drop f zero xs = refl
map_drop f (suc n) [] = refl
map_drop f (suc n) (x ∷ xs) = map_drop f n xs

-- the front of a list, seen so
pub front_seen : {X : Type 0} (view : X → Tree) (k : List Tree) (n : ℕ) (xs : List X) → n ≡ length k → Begins k (map view xs) → map view (take n xs) ≡ k
front_seen view k n xs e h = sym (take-map view n xs) ∙ ap (λ m. take m (map view xs)) e ∙ h

pub rest_seen : {X : Type 0} (view : X → Tree) (k : List Tree) (n : ℕ) (xs : List X) → n ≡ length k → map view (drop n xs) ≡ drop (length k) (map view xs)
rest_seen view k n xs e = map_drop view n xs ∙ ap (λ m. drop m (map view xs)) e

-- ---- ends

pub with_end : (b : Bool) (w : World) (e : Option World) → b ≡ true → EndsAs b w e → list_of e ≡ w ∷ []
with_end b w (Some v) h k = ap (λ x. x ∷ []) (sym (subst (λ b. EndsAs b w (Some v)) h k))
with_end b w None h k = absurd (subst (λ b. EndsAs b w None) h k)

pub without_end : (b : Bool) (w : World) (e : Option World) → b ≡ false → EndsAs b w e → list_of e ≡ []
without_end b w (Some v) h k = absurd (subst (λ b. EndsAs b w (Some v)) h k)
without_end b w None h k = refl

-- ---- levels

pub level_some : {X Y : Type 0} (f : X → Y) (d : Y) (xs : List X) (i : ℕ) (x : X) → i < length xs → x ≡ get_or xs i x → f x ≡ at_or d (map f xs) i
level_some f d [] i x h e = absurd (omega (arith, h))
level_some f d (y ∷ ys) zero x h e = ap f e
level_some f d (y ∷ ys) (suc i) x h e = level_some f d ys i x (omega (arith, h)) e

pub level_none : {X Y : Type 0} (f : X → Y) (d : Y) (xs : List X) (i : ℕ) → length xs ≤ i → d ≡ at_or d (map f xs) i
level_none f d [] i h = refl
level_none f d (y ∷ ys) zero h = absurd (omega (arith, h))
level_none f d (y ∷ ys) (suc i) h = level_none f d ys i (omega (arith, h))
