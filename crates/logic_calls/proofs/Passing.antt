-- Names of functions, from a place on.
use Rattle.std.proofs.Common.{◌≡◌, ℕ, ◌+◌, ◌<◌, ◌≤◌, Bool, true, false, not, ◌&&◌, ◌||◌, List, ◌∷◌, map, length, drop, get_or, sym, ap, ◌∙◌}
use Rattle.std.specs.List.{list_all, list_any}
use Rattle.std.specs.Str.{bytes_eq}
use Rattle.std.proofs.lemmas.List.{at_drop_more, at_drop_all}
use Rattle.qed_terms.specs.Setting.{all_differ}
use Rattle.logic_order.specs.Names.{name_in}
use Rattle.logic_calls.specs.declared.names.Spelling.{Spelling}
use Rattle.logic_calls.specs.View.{view_spelling}

abbrev pub names_from : List Spelling → ℕ → List (List ℕ)
names_from fs i = map name_in (map view_spelling (drop i fs))

opened : (fs : List Spelling) (i : ℕ) (f : Spelling) → i < length fs → f ≡ get_or fs i f → names_from fs i ≡ f.name ∷ names_from fs (i + 1)
opened fs i f l is =
    at_drop_more (λ gs. map name_in (map view_spelling gs)) fs i f l ∙ ap (λ (g : Spelling). g.name ∷ names_from fs (i + 1)) (sym is)

module _ (p : List ℕ → Bool) (fs : List Spelling) (i : ℕ) where
  pub any_found : (whole : Bool) (f : Spelling) → whole ≡ list_any p (names_from fs i) → i < length fs → f ≡ get_or fs i f → p f.name ≡ true → true ≡ whole
  any_found whole f k l is so = sym (k ∙ ap (list_any p) (opened fs i f l is) ∙ ap (λ b. b || list_any p (names_from fs (i + 1))) so)

  pub any_next : (whole : Bool) (f : Spelling) → whole ≡ list_any p (names_from fs i) → i < length fs → f ≡ get_or fs i f → p f.name ≡ false
      → whole ≡ list_any p (names_from fs (i + 1))
  any_next whole f k l is so = k ∙ ap (list_any p) (opened fs i f l is) ∙ ap (λ b. b || list_any p (names_from fs (i + 1))) so

  pub any_end : (whole : Bool) → whole ≡ list_any p (names_from fs i) → length fs ≤ i → false ≡ whole
  any_end whole k l = sym (k ∙ at_drop_all (λ gs. list_any p (map name_in (map view_spelling gs))) fs i l)

  pub all_found : (whole : Bool) (f : Spelling) → whole ≡ list_all p (names_from fs i) → i < length fs → f ≡ get_or fs i f → false ≡ p f.name → false ≡ whole
  all_found whole f k l is so = sym (k ∙ ap (list_all p) (opened fs i f l is) ∙ ap (λ b. b && list_all p (names_from fs (i + 1))) (sym so))

  pub all_next : (whole : Bool) (f : Spelling) → whole ≡ list_all p (names_from fs i) → i < length fs → f ≡ get_or fs i f → true ≡ p f.name
      → whole ≡ list_all p (names_from fs (i + 1))
  all_next whole f k l is so = k ∙ ap (list_all p) (opened fs i f l is) ∙ ap (λ b. b && list_all p (names_from fs (i + 1))) (sym so)

  pub all_end : (whole : Bool) → whole ≡ list_all p (names_from fs i) → length fs ≤ i → true ≡ whole
  all_end whole k l = sym (k ∙ at_drop_all (λ gs. list_all p (map name_in (map view_spelling gs))) fs i l)

module _ (fs : List Spelling) (i : ℕ) where
  differ_opened : (f : Spelling) → i < length fs → f ≡ get_or fs i f
      → all_differ bytes_eq (names_from fs i) ≡ not (list_any (bytes_eq f.name) (names_from fs (i + 1))) && all_differ bytes_eq (names_from fs (i + 1))
  differ_opened f l is = ap (all_differ bytes_eq) (opened fs i f l is)

  pub differ_found : (whole : Bool) (f : Spelling) → whole ≡ all_differ bytes_eq (names_from fs i) → i < length fs → f ≡ get_or fs i f
      → true ≡ list_any (bytes_eq f.name) (names_from fs (i + 1)) → false ≡ whole
  differ_found whole f k l is so =
      sym (k ∙ differ_opened f l is ∙ ap (λ b. not b && all_differ bytes_eq (names_from fs (i + 1))) (sym so))

  pub differ_next : (whole : Bool) (f : Spelling) → whole ≡ all_differ bytes_eq (names_from fs i) → i < length fs → f ≡ get_or fs i f
      → false ≡ list_any (bytes_eq f.name) (names_from fs (i + 1)) → whole ≡ all_differ bytes_eq (names_from fs (i + 1))
  differ_next whole f k l is so = k ∙ differ_opened f l is ∙ ap (λ b. not b && all_differ bytes_eq (names_from fs (i + 1))) (sym so)

  pub differ_end : (whole : Bool) → whole ≡ all_differ bytes_eq (names_from fs i) → length fs ≤ i → true ≡ whole
  differ_end whole k l = sym (k ∙ at_drop_all (λ gs. all_differ bytes_eq (map name_in (map view_spelling gs))) fs i l)

pub ruleset any_laws = (any_found, any_next, any_end)

pub ruleset all_laws = (all_found, all_next, all_end)

pub ruleset differ_laws = (differ_found, differ_next, differ_end)
