-- What fits, by the heads of kids that are well formed.
use Rattle.std.proofs.Common.{◌≡◌, ℕ, suc, ◌+◌, ◌<◌, ◌≤◌, Bool, true, false, ◌&&◌, cond, List, [], ◌∷◌, map, drop, length, get_or, drop_of_length-le, refl, sym, ◌∙◌, ap, arith}
use Rattle.std.proofs.lemmas.List.{drop_more, at_drop_more, length-map}
use Rattle.qed_terms.specs.declared.head.Sort.TheVariants as sort
use Rattle.qed_terms.specs.declared.head.Shape.{Shape}
use Rattle.qed_terms.specs.declared.head.Shape.TheVariants as shape
use Rattle.qed_terms.specs.declared.head.Head.{Head}
use Rattle.qed_terms.specs.Names.{is_memory_name}
use Rattle.qed_terms.specs.Store.{is_well_formed, over, place_of_head}
use Rattle.qed_terms.specs.Tree.{Tree, node, trees_of, head_of}
use Rattle.qed_terms.specs.WellFormed.{Place, int, mem, each, fits, all_fit, may_stand, kid_places, kid_count, region_places}
use Rattle.stored_normals.specs.declared.places.Wanted.{Wanted}
use Rattle.stored_normals.specs.Places.{wanted, region_count, each_fit, placed_fit}

pub and_first : (p q : Bool) → p && q ≡ true → p ≡ true
and_first true q e = refl
and_first false q e = absurd cc

pub and_second : (p q : Bool) → p && q ≡ true → q ≡ true
and_second true q e = e
and_second false q e = absurd cc

and_so : (p q : Bool) → q ≡ true → p ≡ p && q
and_so true q e = sym e
and_so false q e = refl

-- ---- names of memories

pub is_memory : (x : List ℕ) → cond (is_memory_name x) sort.Memory sort.Int ≡ sort.Memory → true ≡ is_memory_name x
is_memory x e = go (is_memory_name x) e
  where
    go : (b : Bool) → cond b sort.Memory sort.Int ≡ sort.Memory → true ≡ b
    go true e = refl
    go false e = absurd cc

pub is_integer : (x : List ℕ) → cond (is_memory_name x) sort.Memory sort.Int ≡ sort.Int → false ≡ is_memory_name x
is_integer x e = go (is_memory_name x) e
  where
    go : (b : Bool) → cond b sort.Memory sort.Int ≡ sort.Int → false ≡ b
    go true e = absurd cc
    go false e = refl

pub is_table : (x : List ℕ) → cond (is_memory_name x) sort.Memory sort.Int ≡ sort.Table → false ≡ is_memory_name x
is_table x e = go (is_memory_name x) e
  where
    go : (b : Bool) → cond b sort.Memory sort.Int ≡ sort.Table → false ≡ b
    go true e = absurd cc
    go false e = absurd cc

-- ---- a tree that is well formed fits where its head may stand

pub head_tells : (p : Place) (t : Tree) → is_well_formed t ≡ true → may_stand p (head_of t) ≡ fits p t
head_tells p (node head ts) e = and_so (may_stand p head) (all_fit (kid_places head (kid_count ts)) ts) (and_second (may_stand (place_of_head head) head) _ e)

-- ---- lists of kids

pub fit_count : (ps : List Place) (ts : List Tree) → all_fit ps (trees_of ts) ≡ true → length ts ≡ length ps
fit_count [] [] e = refl
fit_count [] (t ∷ ts) e = absurd cc
fit_count (p ∷ ps) [] e = absurd cc
fit_count (p ∷ ps) (t ∷ ts) e = ap suc (fit_count ps ts (and_second (fits p t) (all_fit ps (trees_of ts)) e))

pub none_fit : (ps : List Place) (ts : List Tree) → (length ts ≡ length ps → ⊥) → false ≡ all_fit ps (trees_of ts)
none_fit ps ts k = go (all_fit ps (trees_of ts)) refl
  where
    go : (b : Bool) → all_fit ps (trees_of ts) ≡ b → false ≡ b
    go true e = absurd (k (fit_count ps ts e))
    go false e = refl

module _ {Id : Type 0} (tree : Id → Tree) where
  pub each_next : (p : Place) (ids : List Id) (i : ℕ) (id : Id) → i < length ids → id ≡ get_or ids i id → each_fit tree p (drop i ids) ≡ fits p (tree id) && each_fit tree p (drop (i + 1) ids)
  each_next p ids i id k e = at_drop_more (each_fit tree p) ids i id k ∙ ap (λ z. fits p (tree z) && each_fit tree p (drop (i + 1) ids)) (sym e)

  pub each_none : (p : Place) (ids : List Id) (i : ℕ) → length ids ≤ i → true ≡ each_fit tree p (drop i ids)
  each_none p ids i k = sym (ap (each_fit tree p) (drop_of_length-le ids k))

  pub placed_next : (ws : List Wanted) (ids : List Id) (i : ℕ) (w : Wanted) (id : Id) → i < length ws → i < length ids → w ≡ get_or ws i w → id ≡ get_or ids i id
      → placed_fit tree (drop i ws) (drop i ids) ≡ fits (wanted w) (tree id) && placed_fit tree (drop (i + 1) ws) (drop (i + 1) ids)
  placed_next ws ids i w id k l e f =
      (λ j. placed_fit tree (drop_more ws i w k j) (drop_more ids i id l j)) ∙ (λ j. fits (wanted (sym e j)) (tree (sym f j)) && placed_fit tree (drop (i + 1) ws) (drop (i + 1) ids))

  pub placed_none : (ws : List Wanted) (ids : List Id) (i : ℕ) → length ws ≤ i → length ids ≤ i → true ≡ placed_fit tree (drop i ws) (drop i ids)
  placed_none ws ids i k l = sym (λ j. placed_fit tree (drop_of_length-le ws k j) (drop_of_length-le ids l j))

  pub not_placed : (ws : List Wanted) (ids : List Id) → (length ws ≡ length ids → ⊥) → false ≡ placed_fit tree ws ids
  not_placed ws ids k =
      none_fit (map wanted ws) (map tree ids) (λ e. k (sym (sym (length-map ids tree) ∙ e ∙ length-map ws wanted)))

  -- ---- two memories, and what regions have

  pub framed_none : (shapes : List Shape) (ids : List Id) → (length ids ≡ region_count shapes + 2 → ⊥) → false ≡ all_fit (mem ∷ mem ∷ region_places shapes) (trees_of (map tree ids))
  framed_none shapes ids k = none_fit (mem ∷ mem ∷ region_places shapes) (map tree ids) (λ e. k (sym (length-map ids tree) ∙ e ∙ counted))
    where
      long : (shapes : List Shape) → length (region_places shapes) ≡ region_count shapes
      long [] = refl
      long (shape.Cells ∷ shapes) = let r = long shapes in omega (arith, r)
      long (shape.New ∷ shapes) = let r = long shapes in omega (arith, r)

      counted : suc (suc (length (region_places shapes))) ≡ region_count shapes + 2
      counted = let r = long shapes in omega (arith, r)

regions_each : (shapes : List Shape) → region_places shapes ≡ each int (region_count shapes)
regions_each [] = refl
regions_each (shape.Cells ∷ shapes) = let n : suc (suc (suc (region_count shapes))) ≡ 3 + region_count shapes = omega arith in ap (λ ps. int ∷ int ∷ int ∷ ps) (regions_each shapes) ∙ ap (each int) n
regions_each (shape.New ∷ shapes) = let n : suc (region_count shapes) ≡ 1 + region_count shapes = omega arith in ap (λ ps. int ∷ ps) (regions_each shapes) ∙ ap (each int) n

pub framed : {Id : Type 0} (tree : Id → Tree) (shapes : List Shape) (ids : List Id) (m n : Id) → length ids ≡ region_count shapes + 2 → m ≡ get_or ids 0 m → n ≡ get_or ids 1 n
    → all_fit (mem ∷ mem ∷ region_places shapes) (trees_of (map tree ids)) ≡ fits mem (tree m) && (fits mem (tree n) && each_fit tree int (drop 2 ids))
framed tree shapes [] m n k e f = absurd (omega (arith, k))
framed tree shapes (a ∷ []) m n k e f = absurd (omega (arith, k))
framed tree shapes (a ∷ b ∷ ids) m n k e f =
    let c : region_count shapes ≡ length ids = omega (arith, k) in
    (λ j. fits mem (tree (sym e j)) && (fits mem (tree (sym f j)) && all_fit ((regions_each shapes ∙ ap (each int) c) j) (trees_of (map tree ids))))

-- ---- the whole

counted : (ts : List Tree) → kid_count (trees_of ts) ≡ length ts
counted [] = refl
counted (t ∷ ts) = ap suc (counted ts)

pub over_is : {Id : Type 0} (tree : Id → Tree) (head : Head) (ids : List Id)
    → may_stand (place_of_head head) head && all_fit (kid_places head (length ids)) (trees_of (map tree ids)) ≡ is_well_formed (over head (map tree ids))
over_is tree head ids = ap (λ n. may_stand (place_of_head head) head && all_fit (kid_places head n) (trees_of (map tree ids))) (sym (counted (map tree ids) ∙ length-map ids tree))

pub ruleset memory_laws = (is_memory, is_integer, is_table)

pub ruleset over_laws = (over_is)
