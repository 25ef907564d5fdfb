-- What a join of two places leaves, in the words of the code.
use Rattle.std.proofs.Common.{◌≡◌, ◌⊎◌, ℕ, zero, suc, ◌+◌, ◌<◌, ◌||◌, ◌==◌, Bool, true, false, List, [], ◌∷◌, ◌++◌, map, length, get_or, refl, sym, ◌∙◌, ap, subst, inl, inr, arith}
use Rattle.std.specs.Prelude.{pos, Option, Some, None, slice_get, IsSorted, IsPermutation}
use Rattle.std.specs.Bool.{MatchBool}
use Rattle.same_places.specs.Same.{Part, Row, Pairs, Same, at, AreClasses, RowsWithin, PairsWithin}
use Rattle.same_places.specs.Passing.{IsJoined, Sound, Joins, PairsHold, Closed, times_in, class_parts, part_cmp, IsKey, Seen, Passing}
use Rattle.same_places.proofs.Counting.{permuted_as_often}
use Rattle.same_places.proofs.Joined.{sound_joined, joins_joined, one_joined, complete, hold_joined}
use Rattle.same_places.proofs.Passing.{passing_same, passing_joined, passing_new, or_false, or_true}

-- ---- items at places

pub get_mapped : {A B : Type 0} (f : A → B) (xs : List A) (k : ℕ) (x : A) → k < length xs → x ≡ get_or xs k x → slice_get (map f xs) k ≡ Some (f x)
get_mapped f [] k x l e = absurd (omega arith)
get_mapped f (y ∷ xs) zero x l e = ap (λ z. Some (f z)) (sym e)
get_mapped f (y ∷ xs) (suc k) x l e = get_mapped f xs k x (omega arith) e

pub length_mapped : {A B : Type 0} (f : A → B) (xs : List A) → length (map f xs) ≡ length xs
length_mapped f [] = refl
length_mapped f (x ∷ xs) = ap suc (length_mapped f xs)

pub pair_at : (pairs : Pairs) (k : ℕ) (d : ℕ × ℕ) → k < length pairs → slice_get pairs k ≡ Some ((get_or pairs k d).0, (get_or pairs k d).1)
pair_at [] k d l = absurd (omega arith)
pair_at (q ∷ pairs) zero d l = refl
pair_at (q ∷ pairs) (suc k) d l = pair_at pairs k d (omega arith)

-- ---- keys

pub a_key : (c : List ℕ) (r : Row) (parts ordered key : List Part) → parts ≡ class_parts c (r.parts) → IsPermutation parts ordered → IsSorted part_cmp ordered → key ≡ ordered ++ (r.label, pos 0) ∷ [] → IsKey c r key
a_key c r parts ordered key e moved up whole = record {
  ordered = ordered;
  whole = whole;
  in_order = up;
  as_often = subst (λ ps. (p : Part) → times_in ordered p ≡ times_in ps p) e (permuted_as_often parts ordered moved);
}

-- ---- a join of two places

module _ (c d : List ℕ) (i j : ℕ) (k : i < length c) (l : j < length c) where
  pub join_joins : (b : Bool) → MatchBool b (IsJoined i j c d) ((d ≡ c) × (at c i ≡ at c j)) → Joins c d
  join_joins true h = joins_joined c d i j h
  join_joins false h = (ap length h.0, λ x y m n e. ap (λ z. at z x) h.0 ∙ e ∙ sym (ap (λ z. at z y) h.0))

  pub join_sound : (rows : List Row) (pairs : Pairs) → Same rows pairs i j → Sound rows pairs c → (b : Bool) → MatchBool b (IsJoined i j c d) ((d ≡ c) × (at c i ≡ at c j)) → Sound rows pairs d
  join_sound rows pairs r s true h = sound_joined rows pairs c d i j k l h s r
  join_sound rows pairs r s false h = subst (Sound rows pairs) (sym h.0) s

  pub join_one : (b : Bool) → MatchBool b (IsJoined i j c d) ((d ≡ c) × (at c i ≡ at c j)) → at d i ≡ at d j
  join_one true h = one_joined c d i j k l h
  join_one false h = ap (λ z. at z i) h.0 ∙ h.1 ∙ sym (ap (λ z. at z j) h.0)

-- ---- a row of a pass

module _ (count : ℕ) (rows : List Row) (start c : List ℕ) (moved : Bool) (seen : Seen) (n : ℕ) (r : Row) (row : slice_get rows n ≡ Some r) (rows_within : RowsWithin count rows) (key : List Part) (is : IsKey c r key) (p : Passing count rows start c moved seen n) where
  pub passing_hit : (k : ℕ) → seen key ≡ Some k → (d : List ℕ) (b : Bool) → MatchBool b (IsJoined (r.place) k c d) ((d ≡ c) × (at c (r.place) ≡ at c k)) → Passing count rows start d (moved || b) seen (n + 1)
  passing_hit k hit d true h = subst (λ m. Passing count rows start d m seen (n + 1)) (sym (or_true moved)) (passing_joined count rows start c moved seen n r row rows_within key is p k hit d h)
  passing_hit k hit d false h =
      subst (λ m. Passing count rows start d m seen (n + 1)) (sym (or_false moved)) (subst (λ z. Passing count rows start z moved seen (n + 1)) (sym h.0) (passing_same count rows start c moved seen n r row rows_within key is p k hit h.1))

  pub passing_first : (seen' : Seen) → seen key ≡ None → seen' key ≡ Some (r.place) → ((other : List Part) → (other ≡ key) ⊎ (seen' other ≡ seen other)) → Passing count rows start c (moved || false) seen' (n + 1)
  passing_first seen' none new others =
      subst (λ m. Passing count rows start c m seen' (n + 1)) (sym (or_false moved)) (passing_new count rows start c moved seen n r row rows_within key is p seen' none new others)

-- ---- a pair

next_or : (k m : ℕ) → m < k + 1 → (m ≡ k) ⊎ (m < k)
next_or k m l = go (m == k) refl
  where
    go : (b : Bool) → (m == k) ≡ b → (m ≡ k) ⊎ (m < k)
    go true e = inl (grind (arith, e))
    go false e = inr (grind (arith, e, l))

out : Option (ℕ × ℕ) → ℕ × ℕ
out None = (0, 0)
out (Some p) = p

pub one_pair_more : (pairs : Pairs) (c d : List ℕ) (n p q k : ℕ) → length c ≡ n → PairsWithin n pairs → slice_get pairs k ≡ Some (p, q) → Joins c d → at d p ≡ at d q → ((m i j : ℕ) → m < k → slice_get pairs m ≡ Some (i, j) → at c i ≡ at c j) →
    (m i j : ℕ) → m < k + 1 → slice_get pairs m ≡ Some (i, j) → at d i ≡ at d j
unfolding out
one_pair_more pairs c d n p q k e within at_k joins one hold m i j l h = elim (next_or k m l) [
  | inl s ↦
      let r = sym h ∙ ap (slice_get pairs) s ∙ at_k in
      let x : i ≡ p = ap (λ z. (out z).0) r in
      let y : j ≡ q = ap (λ z. (out z).1) r in
      ap (at d) x ∙ one ∙ sym (ap (at d) y)
  | inr s ↦ let w = within m i j h in joins.1 i j (omega (arith, w.0, e)) (omega (arith, w.1, e)) (hold m i j s h)
]

pub pair_below : (pairs : Pairs) (k : ℕ) (p : ℕ × ℕ) → slice_get pairs k ≡ Some p → k < length pairs
pair_below [] k p e = absurd cc
pair_below (q ∷ pairs) zero p e = omega arith
pair_below (q ∷ pairs) (suc k) p e = let l = pair_below pairs k p e in omega arith

-- ---- the end

pub classes_of : (count : ℕ) (rows : List Row) (pairs : Pairs) (c d : List ℕ) → length c ≡ count → PairsWithin count pairs → Joins c d → PairsHold pairs c → Sound rows pairs d → Closed rows d → AreClasses count rows pairs d
classes_of count rows pairs c d e within joins hold sound closed =
    let long = joins.0 in
    (long ∙ e, λ i j k l. ((λ h. sound i j (omega arith) (omega arith) h), (λ s. complete rows pairs d closed (hold_joined pairs c d count e within joins hold) s)))

-- ---- a turn of a pass

pub pass_turn : (count : ℕ) (rows : List Row) (start c d : List ℕ) (moved b more : Bool) (seen seen' : Seen) (n : ℕ) → ((first : List ℕ) (so_far : Bool) → Passing (length c) rows first c so_far seen n → Passing (length c) rows first d (so_far || b) seen' (n + 1)) → (moved || b) ≡ more → Passing count rows start c moved seen n → Passing count rows start d more seen' (n + 1)
pass_turn count rows start c d moved b more seen seen' n visited is p =
    let e = p.all in
    subst (λ m. Passing count rows start d m seen' (n + 1)) is (subst (λ k. Passing k rows start d (moved || b) seen' (n + 1)) e (visited start moved (subst (λ k. Passing k rows start c moved seen n) (sym e) p)))
