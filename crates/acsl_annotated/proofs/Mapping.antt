-- Lists that are made item by item.
use Rattle.std.proofs.Common.{◌≡◌, ℕ, ◌+◌, ◌<◌, ◌≤◌, List, [], ◌∷◌, ◌++◌, map, length, drop, get_or, refl, sym, ap, ◌∙◌, append_assoc, append-nil}
use Rattle.std.proofs.lemmas.List.{at_drop_more, at_drop_all, map_push}
use Rattle.acsl_names.specs.declared.names.Definition.{Definition as Declared}
use Rattle.acsl_typing.specs.declared.annotations.Annotation.{Annotation as Code}
use Rattle.acsl_typing.specs.Annotations.{Annotation, view_annotation}
use Rattle.acsl_expand.specs.Expansion.{Definition}
use Rattle.acsl_annotated.specs.Annotated.{behind, meant_in, meant_from, item_expanded, items_from}

-- ---- by a function of each item: `see` and `view` are what is seen of the items and of what is made

pub mapped_turn : {C D X Y : Type 0} (f : X → Y) (see : C → X) (view : D → Y) (xs : List C) (i : ℕ) (x : C) (ys more : List D) (y : D) (whole : List Y) → i < length xs → x ≡ get_or xs i x → view y ≡ f (see x) → more ≡ ys ++ y ∷ []
    → map view ys ++ map f (map see (drop i xs)) ≡ whole → map view more ++ map f (map see (drop (i + 1) xs)) ≡ whole
mapped_turn f see view xs i x ys more y whole in_list is made grown so_far =
    let rest = map f (map see (drop (i + 1) xs)) in
    ap (λ us. map view us ++ rest) grown ∙ ap (λ us. us ++ rest) (map_push view ys y) ∙ append_assoc (map view ys) (view y ∷ []) rest
    ∙ ap (λ u. map view ys ++ u ∷ rest) made
    ∙ ap (λ us. map view ys ++ us) (sym (at_drop_more (λ zs. map f (map see zs)) xs i x in_list ∙ ap (λ z. f (see z) ∷ rest) (sym is))) ∙ so_far

pub mapped_done : {C D X Y : Type 0} (f : X → Y) (see : C → X) (view : D → Y) (xs : List C) (i : ℕ) (ys : List D) (whole : List Y) → length xs ≤ i → map view ys ++ map f (map see (drop i xs)) ≡ whole → map view ys ≡ whole
mapped_done f see view xs i ys whole all so_far = sym (append-nil (map view ys)) ∙ sym (at_drop_all (λ zs. map view ys ++ map f (map see zs)) xs i all) ∙ so_far

pub ruleset mapping_laws = (mapped_turn, mapped_done)

-- ---- what definitions stand for

module _ (ds : List Declared) where
  pub meant_turn : (xs : List Code) (i : ℕ) (x : Code) (k n : ℕ) (ms more whole : List Definition) → i < length xs → x ≡ get_or xs i x → more ≡ ms ++ meant_in ds k (view_annotation x) → n ≡ behind k (view_annotation x)
      → ms ++ meant_from ds k (map view_annotation (drop i xs)) ≡ whole → more ++ meant_from ds n (map view_annotation (drop (i + 1) xs)) ≡ whole
  meant_turn xs i x k n ms more whole in_list is made next so_far =
      let rest : ℕ → List Definition = λ j. meant_from ds j (map view_annotation (drop (i + 1) xs)) in
      ap (λ us. us ++ rest n) made ∙ append_assoc ms (meant_in ds k (view_annotation x)) (rest n) ∙ ap (λ j. ms ++ (meant_in ds k (view_annotation x) ++ rest j)) next
      ∙ ap (λ us. ms ++ us) (sym (at_drop_more (λ zs. meant_from ds k (map view_annotation zs)) xs i x in_list
      ∙ ap (λ z. meant_in ds k (view_annotation z) ++ meant_from ds (behind k (view_annotation z)) (map view_annotation (drop (i + 1) xs))) (sym is))) ∙ so_far

  pub meant_done : (xs : List Code) (i k : ℕ) (ms whole : List Definition) → length xs ≤ i → ms ++ meant_from ds k (map view_annotation (drop i xs)) ≡ whole → ms ≡ whole
  meant_done xs i k ms whole all so_far = sym (append-nil ms) ∙ sym (at_drop_all (λ zs. ms ++ meant_from ds k (map view_annotation zs)) xs i all) ∙ so_far

pub ruleset meant_laws = (meant_turn, meant_done)

-- ---- declarations

module _ (ms : List Definition) (ds : List Declared) where
  pub item_turn : (xs : List Code) (i : ℕ) (x : Code) (k n : ℕ) (ys more : List Code) (y : Code) (whole : List Annotation) → i < length xs → x ≡ get_or xs i x → view_annotation y ≡ item_expanded ms ds k (view_annotation x) → more ≡ ys ++ y ∷ []
      → n ≡ behind k (view_annotation x) → map view_annotation ys ++ items_from ms ds k (map view_annotation (drop i xs)) ≡ whole
      → map view_annotation more ++ items_from ms ds n (map view_annotation (drop (i + 1) xs)) ≡ whole
  item_turn xs i x k n ys more y whole in_list is made grown next so_far =
      let rest : ℕ → List Annotation = λ j. items_from ms ds j (map view_annotation (drop (i + 1) xs)) in
      ap (λ us. map view_annotation us ++ rest n) grown ∙ ap (λ us. us ++ rest n) (map_push view_annotation ys y) ∙ append_assoc (map view_annotation ys) (view_annotation y ∷ []) (rest n)
      ∙ ap (λ u. map view_annotation ys ++ u ∷ rest n) made ∙ ap (λ j. map view_annotation ys ++ item_expanded ms ds k (view_annotation x) ∷ rest j) next
      ∙ ap (λ us. map view_annotation ys ++ us) (sym (at_drop_more (λ zs. items_from ms ds k (map view_annotation zs)) xs i x in_list
      ∙ ap (λ z. item_expanded ms ds k (view_annotation z) ∷ items_from ms ds (behind k (view_annotation z)) (map view_annotation (drop (i + 1) xs))) (sym is))) ∙ so_far

  pub items_done : (xs : List Code) (i k : ℕ) (ys : List Code) (whole : List Annotation) → length xs ≤ i → map view_annotation ys ++ items_from ms ds k (map view_annotation (drop i xs)) ≡ whole → map view_annotation ys ≡ whole
  items_done xs i k ys whole all so_far = sym (append-nil (map view_annotation ys)) ∙ sym (at_drop_all (λ zs. map view_annotation ys ++ items_from ms ds k (map view_annotation zs)) xs i all) ∙ so_far

pub ruleset item_laws = (item_turn, items_done)
