-- A list whose last item is written anew.
use Rattle.std.proofs.Common.{◌≡◌, ℕ, ◌+◌, ◌-◌, ◌≤◌, List, [], ◌∷◌, ◌++◌, length, get_or, set, ap, ◌∙◌, refl, arith, length-append}

set_last : {X : Type 0} (xs : List X) (x y : X) → set (xs ++ x ∷ []) (length xs) y ≡ xs ++ y ∷ []
set_last [] x y = refl
set_last (z ∷ zs) x y = ap (λ ys. z ∷ ys) (set_last zs x y)

get_last : {X : Type 0} (xs : List X) (x d : X) → get_or (xs ++ x ∷ []) (length xs) d ≡ x
get_last [] x d = refl
get_last (z ∷ zs) x d = get_last zs x d

last_at : {X : Type 0} (items xs : List X) (x : X) → items ≡ xs ++ x ∷ [] → length items - 1 ≡ length xs
last_at items xs x is = ap (λ ys. length ys - 1) is ∙ ap (λ n. n - 1) (length-append xs (x ∷ [])) ∙ omega arith

pub last_written : {X : Type 0} (f : X → X) (items xs : List X) (n : ℕ) (s t x : X) → n ≡ length items → s ≡ get_or items (n - 1) s → t ≡ f s
    → items ≡ xs ++ x ∷ [] → set items (n - 1) t ≡ xs ++ f x ∷ []
last_written f items xs n s t x is_n is_s is_t is =
    let at : n - 1 ≡ length xs = ap (λ m. m - 1) is_n ∙ last_at items xs x is in
    let there : s ≡ x = is_s ∙ ap (λ ys. get_or ys (n - 1) s) is ∙ ap (λ m. get_or (xs ++ x ∷ []) m s) at ∙ get_last xs x s in
    ap (λ ys. set ys (n - 1) t) is ∙ ap (λ m. set (xs ++ x ∷ []) m t) at ∙ set_last xs x t ∙ ap (λ z. xs ++ z ∷ []) (is_t ∙ ap f there)

pub some_last : {X : Type 0} (items xs : List X) (n : ℕ) (x : X) → n ≡ length items → n ≤ 0 → items ≡ xs ++ x ∷ [] → ⊥
some_last items xs n x is_n none is =
    let is_some : length items ≡ length xs + 1 = ap length is ∙ length-append xs (x ∷ []) in omega arith
