-- Lists that grow at their end, and slots that are set, seen through a function.
use Rattle.std.proofs.Common.{◌≡◌, ◌<◌, ◌≤◌, ℕ, zero, suc, ◌+◌, List, [], ◌∷◌, ◌++◌, map, take, drop, length, get_or, set, refl, sym, ap, ◌∙◌, append_assoc, append-nil, arith}
use Rattle.std.proofs.lemmas.List.{at_drop_more, at_drop_all, take_more, take_more_set, drop-set-lt}
use Rattle.walk_steps.specs.State.{at_or, put}
use Rattle.walk_steps.proofs.Lists.{map_both}

pub map_push : {X Y : Type 0} (f : X → Y) (xs : List X) (x : X) → map f (xs ++ x ∷ []) ≡ map f xs ++ f x ∷ []
map_push f [] x = refl
map_push f (y ∷ ys) x = ap (λ zs. f y ∷ zs) (map_push f ys x)

pub then_two : {X : Type 0} (xs ys zs : List X) (a b : X) → ys ≡ xs ++ a ∷ [] → zs ≡ ys ++ b ∷ [] → zs ≡ xs ++ a ∷ b ∷ []
then_two xs ys zs a b h k = k ∙ ap (λ ws. ws ++ b ∷ []) h ∙ append_assoc xs (a ∷ []) (b ∷ [])

pub then_three : {X : Type 0} (xs ys zs ws : List X) (a b c : X) → ys ≡ xs ++ a ∷ [] → zs ≡ ys ++ b ∷ [] → ws ≡ zs ++ c ∷ [] → ws ≡ xs ++ a ∷ b ∷ c ∷ []
then_three xs ys zs ws a b c h k l = l ∙ ap (λ vs. vs ++ c ∷ []) (then_two xs ys zs a b h k) ∙ append_assoc xs (a ∷ b ∷ []) (c ∷ [])

pub put_some : {X Y : Type 0} (f : X → Y) (xs : List X) (i : ℕ) (x : X) → i < length xs → map f (set xs i x) ≡ put (map f xs) i (f x)
put_some f [] i x h = refl
put_some f (y ∷ ys) zero x h = refl
put_some f (y ∷ ys) (suc i) x h = ap (λ zs. f y ∷ zs) (put_some f ys i x (omega (arith, h)))

pub put_none : {X Y : Type 0} (f : X → Y) (xs : List X) (i : ℕ) (y : Y) → length xs ≤ i → map f xs ≡ put (map f xs) i y
put_none f [] i y h = refl
put_none f (x ∷ xs) zero y h = absurd (omega (arith, h))
put_none f (x ∷ xs) (suc i) y h = ap (λ zs. f x ∷ zs) (put_none f xs i y (omega (arith, h)))

pub at_some : {X Y : Type 0} (f : X → Y) (d : Y) (xs : List X) (i : ℕ) (x : X) → i < length xs → x ≡ get_or xs i x → f x ≡ at_or d (map f xs) i
at_some f d [] i x h e = absurd (omega (arith, h))
at_some f d (y ∷ ys) zero x h e = ap f e
at_some f d (y ∷ ys) (suc i) x h e = at_some f d ys i x (omega (arith, h)) e

pub at_none : {X Y : Type 0} (f : X → Y) (d : Y) (xs : List X) (i : ℕ) → length xs ≤ i → d ≡ at_or d (map f xs) i
at_none f d [] i h = refl
at_none f d (y ∷ ys) zero h = absurd (omega (arith, h))
at_none f d (y ∷ ys) (suc i) h = at_none f d ys i (omega (arith, h))

-- one more copy, and none more
pub copied_more : {X : Type 0} (whole xs ys done : List X) (i : ℕ) (x : X) → i < length xs → x ≡ get_or xs i x → ys ≡ done ++ x ∷ [] → done ++ drop i xs ≡ whole → ys ++ drop (i + 1) xs ≡ whole
copied_more whole xs ys done i x lt e h k =
    ap (λ zs. zs ++ drop (i + 1) xs) h ∙ append_assoc done (x ∷ []) (drop (i + 1) xs) ∙ ap (λ y. done ++ y ∷ drop (i + 1) xs) e
    ∙ sym (at_drop_more (λ zs. done ++ zs) xs i x lt) ∙ k

pub copied_all : {X : Type 0} (whole xs done : List X) (i : ℕ) → length xs ≤ i → done ++ drop i xs ≡ whole → done ≡ whole
copied_all whole xs done i h k = sym (append-nil done) ∙ sym (at_drop_all (λ zs. done ++ zs) xs i h) ∙ k

-- one more, seen through a function
pub seen_more : {X Y : Type 0} (f : X → Y) (done : List Y) (xs : List X) (i : ℕ) (x : X) → i < length xs → (done ++ map f (take i xs)) ++ f (get_or xs i x) ∷ [] ≡ done ++ map f (take (i + 1) xs)
seen_more f done xs i x lt =
    append_assoc done (map f (take i xs)) (f (get_or xs i x) ∷ []) ∙ ap (λ ys. done ++ ys) (sym (map_push f (take i xs) (get_or xs i x)) ∙ ap (map f) (sym (take_more xs i x lt)))

-- one between others
pub around : {X Y : Type 0} (f : X → Y) (kids before behind : List X) (t u : X) → kids ≡ (before ++ t ∷ []) ++ behind → t ≡ u → map f kids ≡ map f before ++ f u ∷ map f behind
around f kids before behind t u h e =
    ap (map f) h ∙ map_both f (before ++ t ∷ []) behind ∙ ap (λ ts. ts ++ map f behind) (map_push f before t) ∙ append_assoc (map f before) (f t ∷ []) (map f behind)
    ∙ ap (λ v. map f before ++ f v ∷ map f behind) e

-- ---- a list that is changed in place

-- what is done, with one item more
pub set_done : {X Y : Type 0} (f : X → Y) (xs : List X) (i : ℕ) (x : X) → i < length xs → map f (take (i + 1) (set xs i x)) ≡ map f (take i xs) ++ f x ∷ []
set_done f xs i x lt = ap (map f) (take_more_set xs i x lt) ∙ map_push f (take i xs) x

-- what is to come
pub set_rest : {X Y : Type 0} (f : X → Y) (xs : List X) (i : ℕ) (x y : X) → i < length xs → x ≡ get_or xs i x → map f (drop i xs) ≡ f x ∷ map f (drop (i + 1) (set xs i y))
set_rest f xs i x y lt e =
    at_drop_more (map f) xs i x lt ∙ ap (λ z. f z ∷ map f (drop (i + 1) xs)) (sym e) ∙ ap (λ ys. f x ∷ map f ys) (sym (drop-set-lt (i + 1) xs i y (omega arith)))

pub dropped : {X Y : Type 0} (f : X → Y) (xs : List X) (i : ℕ) (x : X) → i < length xs → x ≡ get_or xs i x → map f (drop i xs) ≡ f x ∷ map f (drop (i + 1) xs)
dropped f xs i x lt e = at_drop_more (map f) xs i x lt ∙ ap (λ y. f y ∷ map f (drop (i + 1) xs)) (sym e)
