-- The formulas of regions, one region after another.
use Rattle.std.proofs.Common.{◌≡◌, ℕ, zero, suc, ◌+◌, ◌-◌, ◌<◌, ◌≤◌, List, [], ◌∷◌, ◌++◌, map, drop, length, get_or, append_assoc, refl, sym, ◌∙◌, ap, arith}
use Rattle.std.proofs.lemmas.List.{map_push}
use Rattle.qed_terms.specs.declared.head.Shape.{Shape}
use Rattle.qed_terms.specs.declared.head.Shape.TheVariants as shape
use Rattle.qed_terms.specs.Tree.{Tree, Trees, trees_of}
use Rattle.term_sketches.specs.declared.sketch.Sketch.{Sketch}
use Rattle.term_sketches.specs.Sketches.{sketch_tree, slots}
use Rattle.instance_rows.specs.PairRows.{in_regions}
use Rattle.branch_accesses.proofs.Gathered.{nil_behind, cut, none_behind}
use Rattle.pair_instances.specs.Regions.{region_at, terms_of}

-- ---- trees in slots

pub cut_slot : (us : List Tree) (i : ℕ) → i < length us → drop i us ≡ slots us i ∷ drop (i + 1) us
cut_slot us i k = go us i k ∙ (let m : suc i ≡ i + 1 = omega arith in ap (λ j. slots us i ∷ drop j us) m)
  where
    go : (ys : List Tree) (j : ℕ) → j < length ys → drop j ys ≡ slots ys j ∷ drop (suc j) ys
    go [] j k = absurd (omega (arith, k))
    go (y ∷ ys) zero k = refl
    go (y ∷ ys) (suc j) k = go ys j (omega (arith, k))

long_drop : (us : List Tree) (i n : ℕ) → length us - i < n → length (drop i us) < n
long_drop us zero n k = omega (arith, k)
long_drop [] (suc i) n k = omega (arith, k)
long_drop (u ∷ us) (suc i) n k = long_drop us i n (omega (arith, k))

-- the shape at a place
pub own : (shapes : List Shape) (i : ℕ) → i < length shapes → get_or shapes i shape.Cells ≡ get_or shapes i (get_or shapes i shape.Cells)
own shapes i k = go shapes i k
  where
    go : (ys : List Shape) (j : ℕ) → j < length ys → get_or ys j shape.Cells ≡ get_or ys j (get_or shapes i shape.Cells)
    go [] j k = absurd (omega (arith, k))
    go (y ∷ ys) zero k = refl
    go (y ∷ ys) (suc j) k = go ys j (omega (arith, k))

-- ---- a region more, and too few terms for one

module _ (us : List Tree) where
  abbrev pub rest_in : List Shape → ℕ → List Tree
  rest_in shapes at = in_regions shapes (trees_of (drop at us)) (slots us 0) (slots us 1)

  pub region_more : (s : Shape) (shapes : List Shape) (at : ℕ) → at + terms_of s ≤ length us → rest_in (s ∷ shapes) at ≡ region_at s (slots us) at ∷ rest_in shapes (at + terms_of s)
  region_more shape.New shapes at k = ap (λ ts. in_regions (shape.New ∷ shapes) (trees_of ts) (slots us 0) (slots us 1)) (cut_slot us at (omega (arith, k)))
  region_more shape.Cells shapes at k =
      let a : at + 1 + 1 ≡ at + 2 = omega arith in
      let b : at + 1 + 1 + 1 ≡ at + 3 = omega arith in
      let third : drop (at + 1 + 1) us ≡ slots us (at + 2) ∷ drop (at + 3) us = cut_slot us (at + 1 + 1) (omega (arith, k)) ∙ (λ i. slots us (a i) ∷ drop (b i) us) in
      let both : drop at us ≡ slots us at ∷ slots us (at + 1) ∷ slots us (at + 2) ∷ drop (at + 3) us =
      cut_slot us at (omega (arith, k)) ∙ ap (λ ts. slots us at ∷ ts) (cut_slot us (at + 1) (omega (arith, k)) ∙ ap (λ ts. slots us (at + 1) ∷ ts) third) in
      ap (λ ts. in_regions (shape.Cells ∷ shapes) (trees_of ts) (slots us 0) (slots us 1)) both

  pub region_less : (s : Shape) (shapes : List Shape) (at : ℕ) → length us - at < terms_of s → rest_in (s ∷ shapes) at ≡ []
  region_less s shapes at k = go s (drop at us) (long_drop us at (terms_of s) k)
    where
      go : (s : Shape) (ts : List Tree) → length ts < terms_of s → in_regions (s ∷ shapes) (trees_of ts) (slots us 0) (slots us 1) ≡ []
      go shape.New [] k = refl
      go shape.New (t ∷ ts) k = absurd (omega (arith, k))
      go shape.Cells [] k = refl
      go shape.Cells (t ∷ []) k = refl
      go shape.Cells (t ∷ u ∷ []) k = refl
      go shape.Cells (t ∷ u ∷ v ∷ ts) k = absurd (omega (arith, k))

  no_region : (ts : Trees) → in_regions [] ts (slots us 0) (slots us 1) ≡ []
  no_region ts = refl

  -- ---- what is done and what is to come make the whole

  abbrev pub done_in : List Sketch → List Tree
  done_in parts = map (sketch_tree (slots us)) parts

  pub regions_more : (shapes : List Shape) (i : ℕ) (s : Shape) (at at' : ℕ) (parts now : List Sketch) (part : Sketch) (whole : List Tree) → i < length shapes → s ≡ get_or shapes i s
      → at + terms_of s ≤ length us → at' ≡ at + terms_of s → sketch_tree (slots us) part ≡ region_at s (slots us) at → now ≡ parts ++ part ∷ []
      → done_in parts ++ rest_in (drop i shapes) at ≡ whole → done_in now ++ rest_in (drop (i + 1) shapes) at' ≡ whole
  regions_more shapes i s at at' parts now part whole k e l m d n w =
      let rest = drop (i + 1) shapes in
      ap (λ ps. done_in ps ++ rest_in rest at') n
      ∙ ap (λ ts. ts ++ rest_in rest at') (map_push (sketch_tree (slots us)) parts part)
      ∙ append_assoc (done_in parts) (sketch_tree (slots us) part ∷ []) (rest_in rest at')
      ∙ (λ j. done_in parts ++ d j ∷ rest_in rest (m j))
      ∙ ap (λ ts. done_in parts ++ ts) (sym (region_more s rest at l))
      ∙ ap (λ ss. done_in parts ++ rest_in ss at) (sym (cut shapes i s k e)) ∙ w

  pub regions_end : (shapes : List Shape) (i : ℕ) (s : Shape) (at : ℕ) (parts : List Sketch) (whole : List Tree) → i < length shapes → s ≡ get_or shapes i s → length us - at < terms_of s
      → done_in parts ++ rest_in (drop i shapes) at ≡ whole → done_in parts ≡ whole
  regions_end shapes i s at parts whole k e l w =
      sym (nil_behind (done_in parts)) ∙ ap (λ ts. done_in parts ++ ts) (sym (ap (λ ss. rest_in ss at) (cut shapes i s k e) ∙ region_less s (drop (i + 1) shapes) at l)) ∙ w

  pub regions_done : (shapes : List Shape) (i at : ℕ) (parts : List Sketch) (whole : List Tree) → length shapes ≤ i → done_in parts ++ rest_in (drop i shapes) at ≡ whole → done_in parts ≡ whole
  regions_done shapes i at parts whole k w =
      sym (nil_behind (done_in parts)) ∙ ap (λ ts. done_in parts ++ ts) (sym (ap (λ ss. rest_in ss at) (none_behind shapes i k))) ∙ w
