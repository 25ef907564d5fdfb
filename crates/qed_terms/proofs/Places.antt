-- Numbers at places of lists, 0 past the end.
use Rattle.std.proofs.Common.{◌≡◌, ℕ, zero, suc, ◌+◌, ◌-◌, ◌<◌, ◌≤◌, List, [], ◌∷◌, map, get_or, length, drop, refl, sym, ◌∙◌, ap, arith}
use Rattle.std.proofs.lemmas.List.{get_or-map}
use Rattle.qed_terms.specs.declared.head.Shape.{Shape}
use Rattle.qed_terms.specs.declared.head.Shape.TheVariants as shape
use Rattle.qed_terms.specs.Order.{region_starts, shape_terms, shape_place, first_of, rest_of}

pub map_within : {X : Type 0} (f : X → ℕ) (xs : List X) (i : ℕ) (x : X) → i < length xs → x ≡ get_or xs i x → get_or (map f xs) i 0 ≡ f x
map_within f xs i x k e = get_or-map f xs i x 0 k ∙ ap f (sym e)

pub map_past : {X : Type 0} (f : X → ℕ) (xs : List X) (i : ℕ) → length xs ≤ i → get_or (map f xs) i 0 ≡ 0
map_past f [] zero k = refl
map_past f [] (suc i) k = refl
map_past f (x ∷ xs) zero k = absurd (omega arith)
map_past f (x ∷ xs) (suc i) k = map_past f xs i (omega arith)

pub two_off : (a b : ℕ) (ns : List ℕ) (i : ℕ) → 2 ≤ i → get_or (a ∷ b ∷ ns) i 0 ≡ get_or ns (i - 2) 0
two_off a b ns zero k = absurd (omega arith)
two_off a b ns (suc zero) k = absurd (omega arith)
two_off a b ns (suc (suc i)) k = let e : suc (suc i) - 2 ≡ i = omega arith in ap (λ j. get_or ns j 0) (sym e)

pub drop_at : {X : Type 0} (xs : List X) (n : ℕ) (d : X) → n < length xs → drop n xs ≡ get_or xs n d ∷ drop (n + 1) xs
drop_at xs n d k = let m : suc n ≡ n + 1 = omega arith in go xs n d k ∙ ap (λ m. get_or xs n d ∷ drop m xs) m
  where
    go : {X : Type 0} (xs : List X) (n : ℕ) (d : X) → n < length xs → drop n xs ≡ get_or xs n d ∷ drop (suc n) xs
    go [] n d k = absurd (omega arith)
    go (y ∷ ys) zero d k = refl
    go (y ∷ ys) (suc n) d k = go ys n d (omega arith)

pub ruleset place_laws = (map_within, map_past, two_off)

-- the first of a list is at place 0, its rest begins at place 1
pub first_is : (ns : List ℕ) (i : ℕ) → first_of (drop i ns) ≡ get_or ns i 0
first_is [] zero = refl
first_is [] (suc i) = refl
first_is (n ∷ ns) zero = refl
first_is (n ∷ ns) (suc i) = first_is ns i

pub rest_is : (ns : List ℕ) (i : ℕ) → rest_of (drop i ns) ≡ drop (i + 1) ns
rest_is ns i = let m : suc i ≡ i + 1 = omega arith in go ns i ∙ ap (λ j. drop j ns) m
  where
    go : (ns : List ℕ) (i : ℕ) → rest_of (drop i ns) ≡ drop (suc i) ns
    go [] zero = refl
    go [] (suc i) = refl
    go (n ∷ ns) zero = refl
    go (n ∷ ns) (suc i) = go ns i

-- ---- regions

in_region : (s : Shape) (shapes : List Shape) (i : ℕ) → i < shape_terms s → get_or (region_starts (s ∷ shapes)) i 0 ≡ shape_place s
in_region shape.Cells shapes zero k = refl
in_region shape.Cells shapes (suc zero) k = refl
in_region shape.Cells shapes (suc (suc zero)) k = refl
in_region shape.Cells shapes (suc (suc (suc i))) k = absurd (omega arith)
in_region shape.New shapes zero k = refl
in_region shape.New shapes (suc i) k = absurd (omega arith)

past_region : (s : Shape) (shapes : List Shape) (i : ℕ) → shape_terms s ≤ i → get_or (region_starts (s ∷ shapes)) i 0 ≡ get_or (region_starts shapes) (i - shape_terms s) 0
past_region shape.Cells shapes zero k = absurd (omega arith)
past_region shape.Cells shapes (suc zero) k = absurd (omega arith)
past_region shape.Cells shapes (suc (suc zero)) k = absurd (omega arith)
past_region shape.Cells shapes (suc (suc (suc i))) k = let e : suc (suc (suc i)) - 3 ≡ i = omega arith in ap (λ j. get_or (region_starts shapes) j 0) (sym e)
past_region shape.New shapes zero k = absurd (omega arith)
past_region shape.New shapes (suc i) k = let e : suc i - 1 ≡ i = omega arith in ap (λ j. get_or (region_starts shapes) j 0) (sym e)

-- the regions from a place on
pub here : (shapes : List Shape) (n i : ℕ) → n < length shapes → i < shape_terms (get_or shapes n shape.Cells) → get_or (region_starts (drop n shapes)) i 0 ≡ shape_place (get_or shapes n shape.Cells)
here shapes n i k l = ap (λ ss. get_or (region_starts ss) i 0) (drop_at shapes n shape.Cells k) ∙ in_region (get_or shapes n shape.Cells) (drop (n + 1) shapes) i l

pub further : (shapes : List Shape) (n i : ℕ) → n < length shapes → shape_terms (get_or shapes n shape.Cells) ≤ i
    → get_or (region_starts (drop n shapes)) i 0 ≡ get_or (region_starts (drop (n + 1) shapes)) (i - shape_terms (get_or shapes n shape.Cells)) 0
further shapes n i k l = ap (λ ss. get_or (region_starts ss) i 0) (drop_at shapes n shape.Cells k) ∙ past_region (get_or shapes n shape.Cells) (drop (n + 1) shapes) i l

pub ruleset region_laws = (here, further)
