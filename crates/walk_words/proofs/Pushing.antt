-- Lists that grow at their end, and slots that are set, seen through a function.
use Rattle.std.proofs.Common.{◌≡◌, ◌<◌, ◌≤◌, ℕ, zero, suc, ◌+◌, List, [], ◌∷◌, ◌++◌, map, drop, length, get_or, set, refl, sym, ap, ◌∙◌, append_assoc, append-nil, arith}
use Rattle.std.proofs.lemmas.List.{at_drop_more, at_drop_all}
use Rattle.walk_steps.specs.State.{at_or, put}

pub map_push : {X Y : Type 0} (f : X → Y) (xs : List X) (x : X) → map f (xs ++ x ∷ []) ≡ map f xs ++ f x ∷ []
map_push f [] x = refl
map_push f (y ∷ ys) x = ap (λ zs. f y ∷ zs) (map_push f ys x)

pub two_pushed : {X Y : Type 0} (f : X → Y) (xs : List X) (a b : X) (t u : Y) → f a ≡ t → f b ≡ u → map f ((xs ++ a ∷ []) ++ b ∷ []) ≡ map f xs ++ t ∷ u ∷ []
two_pushed f [] a b t u h k = λ i. h i ∷ k i ∷ []
two_pushed f (x ∷ xs) a b t u h k = ap (λ zs. f x ∷ zs) (two_pushed f xs a b t u h k)

pub three_pushed : {X Y : Type 0} (f : X → Y) (xs : List X) (a b c : X) (t u v : Y) → f a ≡ t → f b ≡ u → f c ≡ v → map f (((xs ++ a ∷ []) ++ b ∷ []) ++ c ∷ []) ≡ map f xs ++ t ∷ u ∷ v ∷ []
three_pushed f [] a b c t u v h k l = λ i. h i ∷ k i ∷ l i ∷ []
three_pushed f (x ∷ xs) a b c t u v h k l = ap (λ zs. f x ∷ zs) (three_pushed f xs a b c t u v h k l)

pub put_some : {X Y : Type 0} (f : X → Y) (xs : List X) (i : ℕ) (x : X) → i < length xs → map f (set xs i x) ≡ put (map f xs) i (f x)
put_some f [] i x h = refl
put_some f (y ∷ ys) zero x h = refl
put_some f (y ∷ ys) (suc i) x h = ap (λ zs. f y ∷ zs) (put_some f ys i x (omega (arith, h)))

pub put_none : {X Y : Type 0} (f : X → Y) (xs : List X) (i : ℕ) (y : Y) → length xs ≤ i → map f xs ≡ put (map f xs) i y
put_none f [] i y h = refl
put_none f (x ∷ xs) zero y h = absurd (omega (arith, h))
put_none f (x ∷ xs) (suc i) y h = ap (λ zs. f x ∷ zs) (put_none f xs i y (omega (arith, h)))

pub at_some : {X Y : Type 0} (f : X → Y) (d : Y) (xs : List X) (i : ℕ) (x : X) → i < length xs → x ≡ get_or xs i x → f x ≡ at_or d (map f xs) i
at_some f d [] i x h e = absurd (omega (arith, h))
at_some f d (y ∷ ys) zero x h e = ap f e
at_some f d (y ∷ ys) (suc i) x h e = at_some f d ys i x (omega (arith, h)) e

pub at_none : {X Y : Type 0} (f : X → Y) (d : Y) (xs : List X) (i : ℕ) → length xs ≤ i → d ≡ at_or d (map f xs) i
at_none f d [] i h = refl
at_none f d (y ∷ ys) zero h = absurd (omega (arith, h))
at_none f d (y ∷ ys) (suc i) h = at_none f d ys i (omega (arith, h))

-- one more copy, and none more
pub copied_more : {X : Type 0} (whole xs ys done : List X) (i : ℕ) (x : X) → i < length xs → x ≡ get_or xs i x → ys ≡ done ++ x ∷ [] → done ++ drop i xs ≡ whole → ys ++ drop (i + 1) xs ≡ whole
copied_more whole xs ys done i x lt e h k =
    ap (λ zs. zs ++ drop (i + 1) xs) h ∙ append_assoc done (x ∷ []) (drop (i + 1) xs) ∙ ap (λ y. done ++ y ∷ drop (i + 1) xs) e
    ∙ sym (at_drop_more (λ zs. done ++ zs) xs i x lt) ∙ k

pub copied_all : {X : Type 0} (whole xs done : List X) (i : ℕ) → length xs ≤ i → done ++ drop i xs ≡ whole → done ≡ whole
copied_all whole xs done i h k = sym (append-nil done) ∙ sym (at_drop_all (λ zs. done ++ zs) xs i h) ∙ k
