-- A pass of the loop: one formula more in normal form, which is added or not.
use Rattle.std.proofs.Common.{◌≡◌, ℕ, zero, suc, ◌+◌, ◌<◌, Bool, List, [], ◌∷◌, ◌++◌, map, drop, length, get_or, All, append_assoc, refl, sym, ◌∙◌, ap, subst, arith}
use Rattle.std.specs.Prelude.{Option, Some, None}
use Rattle.std.proofs.lemmas.List.{map_push}
use Rattle.std.proofs.lemmas.List.Elements.{All-append, All-push}
use Rattle.qed_terms.specs.declared.head.Head.{Head}
use Rattle.qed_terms.specs.Store.{KeepsOlder}
use Rattle.qed_terms.specs.Tree.{Tree}
use Rattle.qed_terms.proofs.Kept.{kept_trees, held_more}
use Rattle.tree_places.specs.Tables.{Node, IsTable, Grows}
use Rattle.branch_occurrences.specs.Marked.{AreMarked}
use Rattle.branch_occurrences.proofs.FirstPlaces.{still_marked, one_marked}
use Rattle.added_instances.specs.New.{IsNew, IsKeptAt}
use Rattle.added_instances.proofs.Going.{GoesOn, goes_new, goes_old}

pub record AreAdded {Id : Type 0} (normal : Tree → Tree → Type 0) (first tree : Id → Tree) (held : Id → Type 0) (ns : List Node) (there formulas : List Id) (i : ℕ) (made : List Id) (marks : List Bool) : Type 0 where
  pub made_held : All held made
  pub marked : AreMarked tree ns (there ++ made) marks
  pub goes : GoesOn normal (map first there) (map first formulas) (map tree (there ++ made)) (map first (drop i formulas)) (map tree made)

other_trees : {Id : Type 0} (tree tree' : Id → Tree) (ns : List Node) (ids : List Id) (marks : List Bool) → map tree' ids ≡ map tree ids → AreMarked tree ns ids marks → AreMarked tree' ns ids marks
other_trees tree tree' ns ids marks e r = record { places = r.places; below = r.below; trees = r.trees ∙ sym e; marked = r.marked }

cut : {A : Type 0} (ys : List A) (j : ℕ) (x : A) → j < length ys → x ≡ get_or ys j x → drop j ys ≡ x ∷ drop (j + 1) ys
cut ys j x k e = go ys j k ∙ ap (λ y. y ∷ drop (suc j) ys) (sym e) ∙ (let m : suc j ≡ j + 1 = omega arith in ap (λ n. x ∷ drop n ys) m)
  where
    go : (ys : List _) (j : ℕ) → j < length ys → drop j ys ≡ get_or ys j x ∷ drop (suc j) ys
    go [] j k = absurd (omega (arith, k))
    go (y ∷ ys) zero k = refl
    go (y ∷ ys) (suc j) k = go ys j (omega (arith, k))

module _ {Id : Type 0} (normal : Tree → Tree → Type 0) (first tree tree' : Id → Tree) (held held' : Id → Type 0) (keeps : KeepsOlder held held' tree tree')
    (ns ms : List Node) (number : Head → Option ℕ) (find : List ℕ → Option ℕ) (t : IsTable ns number find) (g : Grows ns ms)
    (there formulas : List Id) (i : ℕ) (x y : Id) (k : i < length formulas) (e : x ≡ get_or formulas i x) (there_held : All held there) (n : normal (first x) (tree' y)) (y_held : held' y) where
  pub one_added : (made now : List Id) (marks marks' : List Bool) (found : Option ℕ) → AreAdded normal first tree held ns there formulas i made marks
      → ((ids : List Id) → AreMarked tree' ns ids marks → IsNew ms (map tree' ids) (tree' y) found) → IsKeptAt marks marks' made now y found
      → AreAdded normal first tree' held' ms there formulas (i + 1) now marks'
  one_added made now marks marks' found r new kept = go found (new (there ++ made) before) kept
    where
      both_held : All held (there ++ made)
      both_held = All-append held there made there_held r.made_held

      same : map tree' (there ++ made) ≡ map tree (there ++ made)
      same = kept_trees held held' tree tree' (there ++ made) keeps both_held

      same_made : map tree' made ≡ map tree made
      same_made = kept_trees held held' tree tree' made keeps r.made_held

      before : AreMarked tree' ns (there ++ made) marks
      before = other_trees tree tree' ns (there ++ made) marks same r.marked

      marked : AreMarked tree' ms (there ++ made) marks
      marked = still_marked ns ms number find t g tree' (there ++ made) marks before

      still_held : All held' made
      still_held = held_more held held' tree tree' made keeps r.made_held

      goes : GoesOn normal (map first there) (map first formulas) (map tree' (there ++ made)) (first x ∷ map first (drop (i + 1) formulas)) (map tree' made)
      goes =
          subst (λ us. GoesOn normal (map first there) (map first formulas) (map tree' (there ++ made)) (map first us) (map tree' made)) (cut formulas i x k e)
          (subst (λ us. GoesOn normal (map first there) (map first formulas) us (map first (drop i formulas)) (map tree' made)) (sym same)
          (subst (λ us. GoesOn normal (map first there) (map first formulas) (map tree (there ++ made)) (map first (drop i formulas)) us) (sym same_made) r.goes))

      pushed : map tree' (there ++ (made ++ y ∷ [])) ≡ map tree' (there ++ made) ++ tree' y ∷ []
      pushed = ap (map tree') (sym (append_assoc there made (y ∷ []))) ∙ map_push tree' (there ++ made) y

      go : (found : Option ℕ) → IsNew ms (map tree' (there ++ made)) (tree' y) found → IsKeptAt marks marks' made now y found → AreAdded normal first tree' held' ms there formulas (i + 1) now marks'
      go None old kept = record {
        made_held = subst (All held') (sym kept.1) still_held;
        marked = subst (λ m. AreMarked tree' ms (there ++ now) m) (sym kept.0) (subst (λ us. AreMarked tree' ms (there ++ us) marks) (sym kept.1) marked);
        goes = subst (λ us. GoesOn normal (map first there) (map first formulas) (map tree' (there ++ us)) (map first (drop (i + 1) formulas)) (map tree' us)) (sym kept.1)
            (goes_old normal (map first there) (map first formulas) (map tree' (there ++ made)) (map first (drop (i + 1) formulas)) (map tree' made) (first x) (tree' y) goes n old);
      }
      go (Some p) fresh kept = record {
        made_held = subst (All held') (sym kept.1) (All-push held' made y still_held y_held);
        marked = subst (λ us. AreMarked tree' ms (there ++ us) marks') (sym kept.1) (subst (λ us. AreMarked tree' ms us marks') (append_assoc there made (y ∷ [])) (one_marked tree' ms (there ++ made) marks marks' p y marked fresh.1 fresh.2 kept.0));
        goes = subst (λ us. GoesOn normal (map first there) (map first formulas) (map tree' (there ++ us)) (map first (drop (i + 1) formulas)) (map tree' us)) (sym kept.1)
            (subst (λ us. GoesOn normal (map first there) (map first formulas) us (map first (drop (i + 1) formulas)) (map tree' (made ++ y ∷ []))) (sym pushed)
            (subst (λ us. GoesOn normal (map first there) (map first formulas) (map tree' (there ++ made) ++ tree' y ∷ []) (map first (drop (i + 1) formulas)) us) (sym (map_push tree' made y))
            (goes_new normal (map first there) (map first formulas) (map tree' (there ++ made)) (map first (drop (i + 1) formulas)) (map tree' made) (first x) (tree' y) goes n fresh.0)));
      }
