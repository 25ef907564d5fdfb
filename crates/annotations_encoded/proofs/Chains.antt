-- Chains of comparisons, and regions that are apart, are there.
use Rattle.std.proofs.Common.{◌≡◌, List, [], ◌∷◌, Option, Some, None}
use Rattle.acsl_trees.specs.declared.heads.Head.TheVariants as head
use Rattle.acsl_trees.specs.Tree.{Trees, node, stop, more}
use Rattle.c_runs.specs.Truth.{heads_of}
use Rattle.acsl_encode.specs.Readings.{Terms, region}
use Rattle.acsl_encode.specs.Encode as encode
use Rattle.acsl_encode.specs.Encode.{as_integer, as_pointer, linked, all_linked, in_chain, pairs_apart, apart_all}
use Rattle.acsl_well_typed.specs.WellTyped.{What, an_integer, a_pointer, an_object, a_region, a_linked_integer, a_linked_pointer, are_regions, integers_linked, pointers_linked, chained}
use Rattle.annotations_encoded.specs.Sights.{Sights}
use Rattle.annotations_encoded.specs.Shapes.{IsInteger, IsAddress, IsRegion}
use Rattle.annotations_encoded.proofs.Terms.{IsThere, by_integer, by_pointer}
use Rattle.annotations_encoded.proofs.Kids.{AllAre}
use Rattle.annotations_encoded.proofs.Calls.{put_there}

both_there : {X : Type 0} (o : Option X) (o' : Option (List X)) → IsThere o → IsThere o' → IsThere (encode.both o o')
both_there (Some x) (Some xs) h e = tt
both_there (Some x) None h e = absurd e
both_there None o' h e = absurd h

number_link : (c : _) (x y : Terms) → IsInteger x → IsInteger y → IsThere (linked (head.Link c) x y)
number_link c x y h e =
    by_integer (λ o. IsThere (encode.on_two (encode.comparison c) o (as_integer y))) x h
    (λ t. by_integer (λ o. IsThere (encode.on_two (encode.comparison c) (Some t) o)) y e (λ u. tt))

pointer_link : (c : _) (x y : Terms) → IsAddress x → IsAddress y → IsThere (linked (head.LinkPointers c) x y)
pointer_link c x y h e =
    by_pointer (λ o. IsThere (encode.on_two (encode.pointer_comparison c) o (as_pointer y))) x h
    (λ t. by_pointer (λ o. IsThere (encode.on_two (encode.pointer_comparison c) (Some t) o)) y e (λ u. tt))

module _ (g : Sights) where
  -- ---- links

  integer_links : (x : Terms) (us : List What) (w : What) (ks : Trees) (ys : List Terms) → IsInteger x → integers_linked us ≡ Some w → AllAre g us ks ys
      → (w ≡ an_integer) × IsThere (all_linked x (heads_of ks) ys)
  integer_links x [] w stop [] h e a = (cc, tt)
  integer_links x [] w ks ys h e a = absurd a
  integer_links x (a_linked_integer ∷ us) w (more (node (head.Link c) js) ts) (y ∷ ys) h e a =
      let rest = integer_links y us w ts ys a.0.0 e a.1 in
      (rest.0, both_there (linked (head.Link c) x y) (all_linked y (heads_of ts) ys) (number_link c x y h a.0.0) rest.1)
  integer_links x (a_linked_integer ∷ us) w (more (node l js) ts) (y ∷ ys) h e a = absurd a.0.1
  integer_links x (a_linked_integer ∷ us) w ks ys h e a = absurd a
  integer_links x us w ks ys h e a = absurd cc

  pointer_links : (x : Terms) (us : List What) (w : What) (ks : Trees) (ys : List Terms) → IsAddress x → pointers_linked us ≡ Some w → AllAre g us ks ys
      → (w ≡ an_integer) × IsThere (all_linked x (heads_of ks) ys)
  pointer_links x [] w stop [] h e a = (cc, tt)
  pointer_links x [] w ks ys h e a = absurd a
  pointer_links x (a_linked_pointer ∷ us) w (more (node (head.LinkPointers c) js) ts) (y ∷ ys) h e a =
      let rest = pointer_links y us w ts ys a.0.0 e a.1 in
      (rest.0, both_there (linked (head.LinkPointers c) x y) (all_linked y (heads_of ts) ys) (pointer_link c x y h a.0.0) rest.1)
  pointer_links x (a_linked_pointer ∷ us) w (more (node l js) ts) (y ∷ ys) h e a = absurd a.0.1
  pointer_links x (a_linked_pointer ∷ us) w ks ys h e a = absurd a
  pointer_links x us w ks ys h e a = absurd cc

  pub chain_there : (us : List What) (w : What) (ks : Trees) (xs : List Terms) → chained us ≡ Some w → AllAre g us ks xs
      → (w ≡ an_integer) × IsThere (in_chain (heads_of ks) xs)
  chain_there [] w stop [] e a = (cc, tt)
  chain_there [] w ks xs e a = absurd a
  chain_there (an_integer ∷ us) w (more t ts) (x ∷ xs) e a = integer_links x us w ts xs a.0.0 e a.1
  chain_there (an_integer ∷ us) w ks xs e a = absurd a
  chain_there (a_pointer ∷ us) w (more t ts) (x ∷ xs) e a = pointer_links x us w ts xs a.0.0 e a.1
  chain_there (a_pointer ∷ us) w ks xs e a = absurd a
  chain_there (an_object ∷ []) w (more t stop) (x ∷ []) e a = (cc, tt)
  chain_there (an_object ∷ []) w (more t stop) (x ∷ y ∷ xs) e a = absurd a.1
  chain_there (an_object ∷ []) w (more t (more u ts)) (x ∷ xs) e a = absurd a.1
  chain_there (an_object ∷ []) w ks xs e a = absurd a
  chain_there us w ks xs e a = absurd cc

  -- ---- regions

  abbrev AreRegions : List Terms → Type 0
  AreRegions [] = Unit {0}
  AreRegions (x ∷ xs) = IsRegion x × AreRegions xs

  all_regions : (us : List What) (w : What) (ks : Trees) (xs : List Terms) → are_regions us ≡ Some w → AllAre g us ks xs → (w ≡ an_integer) × AreRegions xs
  all_regions [] w stop [] e a = (cc, tt)
  all_regions [] w ks xs e a = absurd a
  all_regions (a_region ∷ us) w (more t ts) (x ∷ xs) e a = let rest = all_regions us w ts xs e a.1 in (rest.0, (a.0.0, rest.1))
  all_regions (a_region ∷ us) w ks xs e a = absurd a
  all_regions us w ks xs e a = absurd cc

  pair_there : (x y : Terms) → IsRegion x → IsRegion y → IsThere (encode.apart x y)
  pair_there (region ks b i j) (region ks' b' i' j') h e = tt
  pair_there (region ks b i j) y h e = absurd e
  pair_there x y h e = absurd h

  from_all : (x : Terms) (xs : List Terms) → IsRegion x → AreRegions xs → IsThere (apart_all x xs)
  from_all x [] h a = tt
  from_all x (y ∷ ys) h a = both_there (encode.apart x y) (apart_all x ys) (pair_there x y h a.0) (from_all x ys h a.1)

  pairs_there : (xs : List Terms) → AreRegions xs → IsThere (pairs_apart xs)
  pairs_there [] a = tt
  pairs_there (x ∷ xs) a = put_there (apart_all x xs) (pairs_apart xs) (from_all x xs a.0 a.1) (pairs_there xs a.1)

  pub separated_there : (us : List What) (w : What) (ks : Trees) (xs : List Terms) → are_regions us ≡ Some w → AllAre g us ks xs
      → (w ≡ an_integer) × IsThere (pairs_apart xs)
  separated_there us w ks xs e a = let rest = all_regions us w ks xs e a in (rest.0, pairs_there xs rest.1)
