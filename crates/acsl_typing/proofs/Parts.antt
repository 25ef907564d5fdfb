-- Structs, functions and declarations, one after another.
use Rattle.std.proofs.Common.{◌≡◌, ℕ, zero, suc, arith, Option, slice_get, ◌+◌, ◌<◌, ◌≤◌, Bool, false, List, [], ◌∷◌, ◌++◌, map, length, drop, get_or, Ok, Err, refl, sym, ap, ◌∙◌, append_assoc, append-nil}
use Rattle.std.specs.Option.{option_map}
use Rattle.std.proofs.lemmas.List.{at_drop_more, at_drop_all}
use Rattle.std.proofs.lemmas.Option.{slice_get-map}
use Rattle.wp_base.specs.declared.answers.Stop.{Stop}
use Rattle.wp_base.specs.declared.answers.Stop.TheVariants as stop
use Rattle.c_answers.specs.Answers.{Answer, after, Gives}
use Rattle.c_scopes.specs.declared.symbols.Signature.{Signature}
use Rattle.c_scopes.specs.declared.symbols.Structure.{Structure}
use Rattle.typed_unit.specs.declared.unit.Body.{Body}
use Rattle.typed_unit.specs.declared.unit.Part.{Part}
use Rattle.typed_unit.specs.Unit as u
use Rattle.typed_unit.specs.View.{view_body, view_part}
use Rattle.acsl_typing.specs.Annotations.{Annotating, cells_in, none_of, part_annotated, parts_annotated}

-- ---- structs

pub size_turn : (xs : List Structure) (i : ℕ) (x : Structure) (ys more whole : List ℕ) → i < length xs → x ≡ get_or xs i x → more ≡ ys ++ length x.layout.cells ∷ []
    → ys ++ map cells_in (drop i xs) ≡ whole → more ++ map cells_in (drop (i + 1) xs) ≡ whole
size_turn xs i x ys more whole in_list is grown so_far =
    let rest = map cells_in (drop (i + 1) xs) in
    ap (λ us. us ++ rest) grown ∙ append_assoc ys (cells_in x ∷ []) rest
    ∙ ap (λ us. ys ++ us) (sym (at_drop_more (map cells_in) xs i x in_list ∙ ap (λ z. cells_in z ∷ rest) (sym is))) ∙ so_far

pub sizes_done : (xs : List Structure) (i : ℕ) (ys whole : List ℕ) → length xs ≤ i → ys ++ map cells_in (drop i xs) ≡ whole → ys ≡ whole
sizes_done xs i ys whole all so_far = sym (append-nil ys) ∙ sym (at_drop_all (λ zs. ys ++ map cells_in zs) xs i all) ∙ so_far

pub ruleset size_laws = (size_turn, sizes_done)

-- ---- functions

pub false_turn : (xs : List Signature) (i : ℕ) (ys more whole : List Bool) → i < length xs → more ≡ ys ++ false ∷ [] → ys ++ none_of (drop i xs) ≡ whole → more ++ none_of (drop (i + 1) xs) ≡ whole
false_turn xs i ys more whole in_list grown so_far =
    ap (λ us. us ++ none_of (drop (i + 1) xs)) grown ∙ append_assoc ys (false ∷ []) (none_of (drop (i + 1) xs)) ∙ ap (λ us. ys ++ us) (sym (one_less xs i in_list)) ∙ so_far
  where
    one_less : (xs : List Signature) (i : ℕ) → i < length xs → none_of (drop i xs) ≡ false ∷ none_of (drop (i + 1) xs)
    one_less [] i lt = absurd (omega (arith, lt))
    one_less (x ∷ xs) zero lt = refl
    one_less (x ∷ xs) (suc i) lt =
        let e : suc i + 1 ≡ suc (i + 1) = omega arith in
        one_less xs i (omega (arith, lt)) ∙ ap (λ n. false ∷ none_of (drop n (x ∷ xs))) (sym e)

pub false_done : (xs : List Signature) (i : ℕ) (ys whole : List Bool) → length xs ≤ i → ys ++ none_of (drop i xs) ≡ whole → ys ≡ whole
false_done xs i ys whole all so_far = sym (append-nil ys) ∙ sym (at_drop_all (λ zs. ys ++ none_of zs) xs i all) ∙ so_far

pub ruleset false_laws = (false_turn, false_done)

-- ---- bodies

pub body_at : (bs : List Body) (i : ℕ) (o : Option Body) → o ≡ slice_get bs i → option_map view_body o ≡ slice_get (map view_body bs) i
body_at bs i o is = ap (option_map view_body) is ∙ sym (slice_get-map view_body bs i)

-- ---- declarations

module _ (t : u.Typed) where
  one_left : (k : Annotating) (xs : List Part) (i : ℕ) (x : Part) → i < length xs → x ≡ get_or xs i x
      → parts_annotated t k (map view_part (drop i xs)) ≡ after (part_annotated t k (view_part x)) (λ j. parts_annotated t j (map view_part (drop (i + 1) xs)))
  one_left k xs i x in_list is = at_drop_more (λ us. parts_annotated t k (map view_part us)) xs i x in_list ∙ ap (λ y. parts_annotated t k (map view_part (y ∷ drop (i + 1) xs))) (sym is)

  pub part_turn : (k next : Annotating) (xs : List Part) (i : ℕ) (x : Part) (whole : Answer Annotating) → i < length xs → x ≡ get_or xs i x → part_annotated t k (view_part x) ≡ Ok next
      → parts_annotated t k (map view_part (drop i xs)) ≡ whole → parts_annotated t next (map view_part (drop (i + 1) xs)) ≡ whole
  part_turn k next xs i x whole in_list is made so_far =
      sym (one_left k xs i x in_list is ∙ ap (λ o. after o (λ j. parts_annotated t j (map view_part (drop (i + 1) xs)))) made) ∙ so_far

  pub part_fault : {V W : Type 0} (see : V → Annotating) (see' : W → Annotating) (k : Annotating) (xs : List Part) (i : ℕ) (x : Part) (r : Stop) (whole : Answer Annotating) → i < length xs → x ≡ get_or xs i x
      → Gives see (Err r) (part_annotated t k (view_part x)) → parts_annotated t k (map view_part (drop i xs)) ≡ whole → Gives see' (Err r) whole
  part_fault see see' k xs i x (stop.Refused r) whole in_list is fault so_far =
      sym so_far ∙ one_left k xs i x in_list is ∙ ap (λ o. after o (λ j. parts_annotated t j (map view_part (drop (i + 1) xs)))) fault
  part_fault see see' k xs i x stop.NoMemory whole in_list is fault so_far = tt

  pub parts_done : (k : Annotating) (xs : List Part) (i : ℕ) (whole : Answer Annotating) → length xs ≤ i → parts_annotated t k (map view_part (drop i xs)) ≡ whole → whole ≡ Ok k
  parts_done k xs i whole all so_far = sym so_far ∙ at_drop_all (λ us. parts_annotated t k (map view_part us)) xs i all

pub ruleset part_laws = (part_turn, part_fault, parts_done)
