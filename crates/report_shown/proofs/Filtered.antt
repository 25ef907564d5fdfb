-- Loops over goals: those that pass, and names once each.
use Rattle.std.proofs.Common.{◌≡◌, ℕ, zero, suc, ◌+◌, ◌<◌, ◌≤◌, Bool, true, false, cond, List, [], ◌∷◌, ◌++◌, length, map, drop, get_or, refl, sym, ap, ◌∙◌, append_assoc, append-nil}
use Rattle.std.specs.Prelude.{filter}
use Rattle.std.proofs.lemmas.List.{drop_all, drop_more, map_push}
use Rattle.report_read.specs.Report as report
use Rattle.report_read.specs.View.{view_goal}
use Rattle.report_read.specs.declared.report.Goal.{Goal}
use Rattle.report_shown.specs.Source.{elsewhere}
use Rattle.report_shown.specs.Shown.{Wanted, is_wanted, shown, more_if_new, distinct_behind}

next_item : {A : Type 0} (items : List A) (i : ℕ) (a : A) → i < length items → a ≡ get_or items i a → drop i items ≡ a ∷ drop (i + 1) items
next_item items i a l is = drop_more items i a l ∙ ap (λ x. x ∷ drop (i + 1) items) (sym is)

filter_yes : {X : Type 0} (p : X → Bool) (x : X) (xs : List X) → p x ≡ true → filter p (x ∷ xs) ≡ x ∷ filter p xs
filter_yes p x xs e = rw e

filter_no : {X : Type 0} (p : X → Bool) (x : X) (xs : List X) → p x ≡ false → filter p (x ∷ xs) ≡ filter p xs
filter_no p x xs e = rw e

pub passes : {A X : Type 0} (p : X → Bool) (see : A → X) (items : List A) (i : ℕ) (a : A) (done done' : List A) (whole : List X) → i < length items → a ≡ get_or items i a → p (see a) ≡ true → done' ≡ done ++ a ∷ []
    → map see done ++ filter p (map see (drop i items)) ≡ whole → map see done' ++ filter p (map see (drop (i + 1) items)) ≡ whole
passes p see items i a done done' whole l is pass d h =
    let rest = map see (drop (i + 1) items) in
    let front : map see done' ≡ map see done ++ see a ∷ [] = ap (map see) d ∙ map_push see done a in
    ap (λ f. f ++ filter p rest) front ∙ append_assoc (map see done) (see a ∷ []) (filter p rest)
    ∙ ap (λ r. map see done ++ r) (sym (filter_yes p (see a) rest pass) ∙ ap (λ xs. filter p (map see xs)) (sym (next_item items i a l is))) ∙ h

pub passes_not : {A X : Type 0} (p : X → Bool) (see : A → X) (items : List A) (i : ℕ) (a : A) (done : List A) (whole : List X) → i < length items → a ≡ get_or items i a → p (see a) ≡ false
    → map see done ++ filter p (map see (drop i items)) ≡ whole → map see done ++ filter p (map see (drop (i + 1) items)) ≡ whole
passes_not p see items i a done whole l is fail h =
    let rest = map see (drop (i + 1) items) in
    ap (λ r. map see done ++ r) (sym (filter_no p (see a) rest fail) ∙ ap (λ xs. filter p (map see xs)) (sym (next_item items i a l is))) ∙ h

pub passed : {A X : Type 0} (p : X → Bool) (see : A → X) (items : List A) (i : ℕ) (done : List A) (whole : List X) → length items ≤ i → map see done ++ filter p (map see (drop i items)) ≡ whole → map see done ≡ whole
passed p see items i done whole l h = sym (append-nil (map see done)) ∙ ap (λ xs. map see done ++ filter p (map see xs)) (sym (drop_all i items l)) ∙ h

-- ---- names

pub name_more : (name : report.Goal → List ℕ) (items : List Goal) (i : ℕ) (a : Goal) (names names' whole : List (List ℕ)) → i < length items → a ≡ get_or items i a → names' ≡ more_if_new names (name (view_goal a))
    → distinct_behind names (map name (map view_goal (drop i items))) ≡ whole → distinct_behind names' (map name (map view_goal (drop (i + 1) items))) ≡ whole
name_more name items i a names names' whole l is n h =
    ap (λ ns. distinct_behind ns (map name (map view_goal (drop (i + 1) items)))) n
    ∙ ap (λ xs. distinct_behind names (map name (map view_goal xs))) (sym (next_item items i a l is)) ∙ h

pub name_end : (name : report.Goal → List ℕ) (items : List Goal) (i : ℕ) (names whole : List (List ℕ)) → length items ≤ i → distinct_behind names (map name (map view_goal (drop i items))) ≡ whole → names ≡ whole
name_end name items i names whole l h = ap (λ xs. distinct_behind names (map name (map view_goal xs))) (sym (drop_all i items l)) ∙ h
