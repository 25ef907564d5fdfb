-- Items one after another, by a loop over a slice.
use Rattle.std.proofs.Common.{◌≡◌, ℕ, ◌+◌, ◌<◌, ◌≤◌, List, [], ◌∷◌, ◌++◌, map, length, drop, get_or, Ok, Err, refl, sym, ap, ◌∙◌, append_assoc, append-nil}
use Rattle.std.proofs.lemmas.List.{at_drop_more, at_drop_all, map_push}
use Rattle.wp_base.specs.declared.answers.Stop.{Stop}
use Rattle.wp_base.specs.declared.answers.Stop.TheVariants as stop
use Rattle.c_answers.specs.Answers.{Answer, after, Gives}
use Rattle.acsl_clauses.specs.Each.{each, onto}

-- what is left begins with an item
one_left : {S C X Y : Type 0} (f : S → X → Answer (Y × S)) (see : C → X) (s : S) (xs : List C) (i : ℕ) (x : C) → i < length xs → x ≡ get_or xs i x
    → each f s (map see (drop i xs)) ≡ after (f s (see x)) (λ y. after (each f y.1 (map see (drop (i + 1) xs))) (λ ys. Ok (y.0 ∷ ys.0, ys.1)))
one_left f see s xs i x in_list is =
    at_drop_more (λ zs. each f s (map see zs)) xs i x in_list ∙ ap (λ z. each f s (map see (z ∷ drop (i + 1) xs))) (sym is)

one_onto : {S Y : Type 0} (ys : List Y) (y : Y) (a : Answer (List Y × S)) → onto (ys ++ y ∷ []) a ≡ onto ys (after a (λ zs. Ok (y ∷ zs.0, zs.1)))
one_onto ys y (Ok zs) = ap (λ us. Ok (us, zs.1)) (append_assoc ys (y ∷ []) zs.0)
one_onto ys y (Err e) = refl

pub each_turn : {S C D X Y : Type 0} (f : S → X → Answer (Y × S)) (see : C → X) (view : D → Y) (xs : List C) (i : ℕ) (x : C) (s next : S) (ys more : List D) (y : D) (whole : Answer (List Y × S))
    → i < length xs → x ≡ get_or xs i x → f s (see x) ≡ Ok (view y, next) → more ≡ ys ++ y ∷ []
    → onto (map view ys) (each f s (map see (drop i xs))) ≡ whole → onto (map view more) (each f next (map see (drop (i + 1) xs))) ≡ whole
each_turn {S = S} {Y = Y} f see view xs i x s next ys more y whole in_list is made grown so_far =
    let rest : S → Answer (List Y × S) = λ k. each f k (map see (drop (i + 1) xs)) in
    ap (λ us. onto us (rest next)) (ap (map view) grown ∙ map_push view ys y) ∙ one_onto (map view ys) (view y) (rest next)
    ∙ ap (λ a. onto (map view ys) (after a (λ u. after (rest u.1) (λ us. Ok (u.0 ∷ us.0, us.1))))) (sym made)
    ∙ ap (onto (map view ys)) (sym (one_left f see s xs i x in_list is)) ∙ so_far

pub each_fault : {S C D X Y Z W : Type 0} (left : Z → Y × S) (left' : W → List Y × S) (f : S → X → Answer (Y × S)) (see : C → X) (view : D → Y) (xs : List C) (i : ℕ) (x : C) (s : S) (ys : List D) (e : Stop) (whole : Answer (List Y × S))
    → i < length xs → x ≡ get_or xs i x → Gives left (Err e) (f s (see x)) → onto (map view ys) (each f s (map see (drop i xs))) ≡ whole → Gives left' (Err e) whole
each_fault left left' f see view xs i x s ys (stop.Refused r) whole in_list is fault so_far =
    sym so_far ∙ ap (onto (map view ys)) (one_left f see s xs i x in_list is)
    ∙ ap (λ a. onto (map view ys) (after a (λ u. after (each f u.1 (map see (drop (i + 1) xs))) (λ us. Ok (u.0 ∷ us.0, us.1))))) fault
each_fault left left' f see view xs i x s ys stop.NoMemory whole in_list is fault so_far = tt

pub each_done : {S C D X Y : Type 0} (f : S → X → Answer (Y × S)) (see : C → X) (view : D → Y) (xs : List C) (i : ℕ) (s : S) (ys : List D) (whole : Answer (List Y × S)) → length xs ≤ i
    → onto (map view ys) (each f s (map see (drop i xs))) ≡ whole → whole ≡ Ok (map view ys, s)
each_done f see view xs i s ys whole all so_far =
    sym so_far ∙ at_drop_all (λ zs. onto (map view ys) (each f s (map see zs))) xs i all ∙ ap (λ us. Ok (us, s)) (append-nil (map view ys))

pub ruleset turn_laws = (each_turn, each_fault, each_done)
