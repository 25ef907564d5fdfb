-- Items at their places, and lists of which each item is so with the one at its place in another.
use Rattle.std.proofs.Common.{◌≡◌, ℕ, zero, suc, Bool, true, false, ◌&&◌, List, [], ◌∷◌, map, Some, refl, sym, ap, ◌∙◌, subst, inl, inr}
use Rattle.std.specs.Prelude.{slice_get}
use Rattle.std.specs.List.{list_all}
use Rattle.std.proofs.lemmas.Bool.{false≢true, and_parts}
use Rattle.walk_steps.specs.State.{In}
use Rattle.goal_report.specs.Judging.{EachIsSo}

pub place_of : {X : Type 0} (x : X) (xs : List X) → In x xs → (i : ℕ) × (slice_get xs i ≡ Some x)
place_of x [] h = absurd h
place_of x (y ∷ xs) (inl e) = (0, ap Some (sym e))
place_of x (y ∷ xs) (inr h) = let k = place_of x xs h in (suc k.0, k.1)

pub seen_at : {X Y : Type 0} (f : X → Y) (x : X) (xs : List X) (i : ℕ) → slice_get xs i ≡ Some x → slice_get (map f xs) i ≡ Some (f x)
seen_at f x [] i e = absurd cc
seen_at f x (y ∷ xs) zero e = let same : y ≡ x = cc in ap (λ z. Some (f z)) same
seen_at f x (y ∷ xs) (suc i) e = seen_at f x xs i e

pub each_at : {X Y : Type 0} (Is : X → Y → Type 0) (xs : List X) (ys : List Y) (i : ℕ) (x : X) (y : Y) → EachIsSo Is xs ys → slice_get xs i ≡ Some x → slice_get ys i ≡ Some y → Is x y
each_at Is [] ys i x y all m n = absurd cc
each_at Is (a ∷ xs) [] i x y all m n = absurd all
each_at Is (a ∷ xs) (b ∷ ys) zero x y all m n =
    let one : a ≡ x = cc in
    let two : b ≡ y = cc in
    subst (λ x. Is x y) one (subst (Is a) two all.0)
each_at Is (a ∷ xs) (b ∷ ys) (suc i) x y all m n = each_at Is xs ys i x y all.1 m n

-- each has one at its place
pub partner_at : {X Y : Type 0} (Is : X → Y → Type 0) (xs : List X) (ys : List Y) (i : ℕ) (x : X) → EachIsSo Is xs ys → slice_get xs i ≡ Some x → (y : Y) × (slice_get ys i ≡ Some y)
partner_at Is [] ys i x all m = absurd cc
partner_at Is (a ∷ xs) [] i x all m = absurd all
partner_at Is (a ∷ xs) (b ∷ ys) zero x all m = (b, refl)
partner_at Is (a ∷ xs) (b ∷ ys) (suc i) x all m = partner_at Is xs ys i x all.1 m

pub all_at : {X : Type 0} (p : X → Bool) (xs : List X) (i : ℕ) (x : X) → list_all p xs ≡ true → slice_get xs i ≡ Some x → p x ≡ true
all_at p [] i x a m = absurd cc
all_at p (y ∷ xs) zero x a m = let same : y ≡ x = cc in sym (ap p same) ∙ (and_parts (p y) (list_all p xs) a).0
all_at p (y ∷ xs) (suc i) x a m = all_at p xs i x (and_parts (p y) (list_all p xs) a).1 m
