-- Checks pushed behind others.
use Rattle.std.proofs.Common.{◌≡◌, ℕ, List, [], ◌∷◌, ◌++◌, map, refl, sym, ap, ◌∙◌, append_assoc, append-nil}
use Rattle.std.proofs.lemmas.List.{map_push}
use Rattle.c_runs.specs.Checks as c
use Rattle.check_lists.specs.declared.checks.Undefined.{Undefined}
use Rattle.check_lists.specs.declared.checks.Check.{Check}
use Rattle.check_lists.specs.View.{view_undefined, view_check, view_checks, check_at, under, Added}

pub none_added : (old : List Check) (way : List ℕ) → Added old old way []
unfolding Added
none_added old way = sym (append-nil (view_checks old))

pub map_append : {X Y : Type 0} (f : X → Y) (xs ys : List X) → map f (xs ++ ys) ≡ map f xs ++ map f ys
map_append f [] ys = refl
map_append f (x ∷ xs) ys = ap (λ zs. f x ∷ zs) (map_append f xs ys)

pub both_added : (old mid new : List Check) (way : List ℕ) (xs ys : List c.Check) → Added old mid way xs → Added mid new way ys → Added old new way (xs ++ ys)
unfolding Added
both_added old mid new way xs ys h g =
    g ∙ ap (λ zs. zs ++ map (under way) ys) h ∙ append_assoc (view_checks old) (map (under way) xs) (map (under way) ys)
    ∙ ap (λ zs. view_checks old ++ zs) (sym (map_append (under way) xs ys))

pub behind_one : (old mid new : List Check) (way : List ℕ) (x : c.Check) (ys : List c.Check) → Added old mid way (x ∷ []) → Added mid new way ys → Added old new way (x ∷ ys)
behind_one old mid new way x ys h g = both_added old mid new way (x ∷ []) ys h g

pub one_added : (old new : List Check) (kind : Undefined) (line step : ℕ) (way : List ℕ) → new ≡ old ++ record { kind = kind; line = line; step = step; way = way } ∷ []
    → Added old new way (check_at (view_undefined kind) line step ∷ [])
unfolding Added
one_added old new kind line step way e =
    let made : List ℕ → c.Check = λ way. record { kind = view_undefined kind; line = line; step = step; way = way } in
    ap view_checks e ∙ map_push view_check old (record { kind = kind; line = line; step = step; way = way })
    ∙ ap (λ w. view_checks old ++ made w ∷ []) (sym (append-nil way))

pub ruleset adding_laws = (none_added, both_added)

-- ---- whole expressions

under_nothing : (xs : List c.Check) → map (under []) xs ≡ xs
under_nothing [] = refl
under_nothing (x ∷ xs) = ap (λ ys. x ∷ ys) (under_nothing xs)

pub list_made : (made0 made : List Check) (xs : List c.Check) → made0 ≡ [] → Added made0 made [] xs → view_checks made ≡ xs
unfolding Added
list_made made0 made xs e h = h ∙ ap (λ z. view_checks z ++ map (under []) xs) e ∙ under_nothing xs

pub two_lists_made : (made0 mid made : List Check) (xs ys : List c.Check) → made0 ≡ [] → Added made0 mid [] xs → Added mid made [] ys → view_checks made ≡ xs ++ ys
two_lists_made made0 mid made xs ys e h g = list_made made0 made (xs ++ ys) e (both_added made0 mid made [] xs ys h g)

pub ruleset list_laws = (list_made, two_lists_made)
