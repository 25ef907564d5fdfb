-- Calls of functions, and what they reach.
use Rattle.std.proofs.Common.{◌≡◌, ℕ, zero, suc, ◌+◌, ◌<◌, Bool, ◌&&◌, ◌||◌, List, [], ◌∷◌, length, map, get_or, Option, refl, sym, ap, ◌∙◌, subst, arith}
use Rattle.std.specs.Option.{option_map}
use Rattle.program_trees.specs.declared.files.Function.{Function as Code}
use Rattle.program_trees.specs.View.{view_function}
use Rattle.c_programs.specs.Clusters.{at, body_calls, calls_directly, reaches_through, reaches, call_each_other}
use Rattle.call_clusters.specs.Callees.{is_among, body_callees}
use Rattle.call_clusters.specs.Rows.{entry, IsMarked, IsRow, AreRows, clusters_from}
use Rattle.program_trees.specs.Files.{in_cluster_of}
use Rattle.call_clusters.proofs.Classes.{are_clusters}
use Rattle.call_clusters.proofs.Calling.{body_among}
use Rattle.call_clusters.proofs.Tables.{same_row, round_turn}

at_item : (fs : List (Option Code)) (f : ℕ) (d : Option Code) → f < length fs → at (map (option_map view_function) fs) f ≡ option_map view_function (get_or fs f d)
at_item [] f d lt = absurd (omega (arith, lt))
at_item (x ∷ fs) zero d lt = refl
at_item (x ∷ fs) (suc f) d lt = at_item fs f d (omega (arith, lt))

pub calls_marked : (fs : List (Option Code)) (f n : ℕ) (x : Option Code) (callees : List ℕ) (row : List Bool) → f < length fs → x ≡ get_or fs f x → callees ≡ body_callees (option_map view_function x)
    → IsMarked n callees row → IsRow n (calls_directly (map (option_map view_function) fs) f) row
calls_marked fs f n x callees row lt is made so =
    same_row n (λ g. is_among g callees) (calls_directly (map (option_map view_function) fs) f) row
    (λ g g_in. ap (is_among g) made ∙ body_among g (option_map view_function x) ∙ ap (λ y. body_calls (option_map view_function y) g) is ∙ ap (λ o. body_calls o g) (sym (at_item fs f x lt))) (record { count = so.count; entries = so.entries })

length-map : {X Y : Type 0} (h : X → Y) (xs : List X) → length (map h xs) ≡ length xs
length-map h [] = refl
length-map h (x ∷ xs) = ap suc (length-map h xs)

pub reach_start : (n : ℕ) (d : ℕ → ℕ → Bool) (rows : List (List Bool)) → AreRows n n d rows → AreRows n n (reaches_through d 0) rows
reach_start n d rows so = so

pub reach_turn : (n k : ℕ) (d : ℕ → ℕ → Bool) (rows next : List (List Bool)) → k < n → AreRows n n (reaches_through d k) rows
    → AreRows (length rows) (length rows) (λ f g. entry rows f g || (entry rows f k && entry rows k g)) next → AreRows n n (reaches_through d (k + 1)) next
reach_turn n k d rows next lt so made =
    let P : ℕ → Type 0 = λ m. AreRows m m (λ f g. entry rows f g || (entry rows f k && entry rows k g)) next in round_turn n d k rows next lt so (subst P so.count made)

pub reach_done : (fs : List (Option Code)) (k : ℕ) (rows : List (List Bool)) → k ≡ length fs → AreRows (length fs) (length fs) (reaches_through (calls_directly (map (option_map view_function) fs)) k) rows
    → AreRows (length fs) (length fs) (reaches (map (option_map view_function) fs)) rows
reach_done fs k rows all so =
    let P : ℕ → Type 0 = λ m. AreRows (length fs) (length fs) (reaches_through (calls_directly (map (option_map view_function) fs)) m) rows in
    subst P (all ∙ sym (length-map (option_map view_function) fs)) so

pub ruleset reaching_laws = (reach_start, reach_turn, reach_done)

pub clusters_are : (fs : List (Option Code)) (rows : List (List Bool)) (cs : List (Option ℕ)) → AreRows (length fs) (length fs) (reaches (map (option_map view_function) fs)) rows → cs ≡ clusters_from rows (length rows) 0
    → (f g : ℕ) → in_cluster_of cs f g ≡ call_each_other (map (option_map view_function) fs) f g
clusters_are fs rows cs so is =
    let P : ℕ → Type 0 = λ m. AreRows m m (reaches (map (option_map view_function) fs)) rows in
    are_clusters (map (option_map view_function) fs) rows cs (subst P (sym (length-map (option_map view_function) fs)) so) is
