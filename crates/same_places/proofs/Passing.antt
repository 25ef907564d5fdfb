-- One pass over the rows: what holds after so many of them.
use Rattle.std.proofs.Common.{◌≡◌, ◌⊎◌, ℕ, zero, suc, ◌+◌, ◌<◌, ◌≤◌, Bool, true, false, ◌==◌, ◌||◌, List, [], ◌∷◌, ◌++◌, length, refl, sym, ◌∙◌, ap, subst, inl, inr, arith}
use Rattle.std.specs.Prelude.{pos, Option, Some, None, slice_get}
use Rattle.same_places.specs.Pairing.{PairsOff}
use Rattle.same_places.specs.Same.{Part, Row, Pairs, Same, alike, at, RowsWithin}
use Rattle.same_places.specs.Passing.{IsJoined, Sound, OneMark, Closed, class_part, class_parts, times_in, AsOften, IsKey, Seen, Known, Passing}
use Rattle.same_places.proofs.Pairing.{off_map, off_left, off_right, off_through}
use Rattle.same_places.proofs.Counting.{map_itself, off_counts, counts_off}
use Rattle.same_places.proofs.Ordered.{one_order}
use Rattle.same_places.proofs.Joined.{known_joined, sound_joined, joins_joined, joins_on, same_parts}

-- ---- small facts

last_or : (n l : ℕ) → l < n + 1 → (l ≡ n) ⊎ (l < n)
last_or n l k = go (l == n) refl
  where
    go : (b : Bool) → (l == n) ≡ b → (l ≡ n) ⊎ (l < n)
    go true e = inl (grind (arith, e))
    go false e = inr (grind (arith, e, k))

pub in_list : {A : Type 0} (xs : List A) (i : ℕ) (x : A) → slice_get xs i ≡ Some x → i < length xs
in_list [] i x e = absurd cc
in_list (y ∷ xs) zero x e = omega arith
in_list (y ∷ xs) (suc i) x e = let k = in_list xs i x e in omega arith

one_item : {A : Type 0} (o : Option A) (x y : A) → o ≡ Some x → o ≡ Some y → x ≡ y
one_item o x y d e = cc

-- the last item, and those before it
ends : {A : Type 0} (xs ys : List A) (x y : A) → xs ++ x ∷ [] ≡ ys ++ y ∷ [] → (xs ≡ ys) × (x ≡ y)
ends [] [] x y e = (refl, cc)
ends [] (b ∷ []) x y e = absurd cc
ends [] (b ∷ c ∷ ys) x y e = absurd cc
ends (a ∷ []) [] x y e = absurd cc
ends (a ∷ c ∷ xs) [] x y e = absurd cc
ends (a ∷ xs) (b ∷ ys) x y e =
    let r = ends xs ys x y cc in
    let h : a ≡ b = cc in (λ i. h i ∷ r.0 i, r.1)

-- ---- keys

to_key : (c : List ℕ) (r : Row) (key : List Part) (is : IsKey c r key) → PairsOff (λ p q. class_part c p ≡ q) (r.parts) (is.ordered)
to_key c r key is =
    counts_off (class_part c) (λ (q : Part). q) (r.parts) (is.ordered) (λ x. sym (is.as_often x) ∙ ap (λ qs. times_in qs x) (sym (map_itself (is.ordered))))

from_key : (c : List ℕ) (r : Row) (key : List Part) (is : IsKey c r key) → PairsOff (λ q p. q ≡ class_part c p) (is.ordered) (r.parts)
from_key c r key is =
    counts_off (λ (q : Part). q) (class_part c) (is.ordered) (r.parts) (λ x. ap (λ qs. times_in qs x) (map_itself (is.ordered)) ∙ is.as_often x)

-- rows of one label whose parts pair off have one key
one_key : (c : List ℕ) (r s : Row) (key key' : List Part) → IsKey c r key → IsKey c s key' → r.label ≡ s.label → PairsOff (OneMark (λ i j. at c i ≡ at c j)) (r.parts) (s.parts) → key ≡ key'
one_key c r s key key' is is' l off =
    let so : AsOften (class_parts c (r.parts)) (class_parts c (s.parts)) = off_counts (class_part c) (class_part c) (off_map (λ p q h i. (h.1 i, h.0 i)) off) in
    let e = one_order (is.ordered) (is'.ordered) (is.in_order) (is'.in_order) (λ x. is.as_often x ∙ so x ∙ sym (is'.as_often x)) in
    is.whole ∙ (λ i. e i ++ (l i, pos 0) ∷ []) ∙ sym (is'.whole)

-- ---- a pass

pub passing_init : (count : ℕ) (rows : List Row) (start : List ℕ) (seen : Seen) → length start ≡ count → ((key : List Part) → seen key ≡ None) → Passing count rows start start false seen 0
passing_init count rows start seen e none = record {
  all = e;
  sound = λ pairs s. s;
  joins = (refl, λ i j k l e. e);
  within = λ key k h. let n = none key in absurd cc;
  noted = λ pairs s key k h. let n = none key in absurd cc;
  found = λ m l r k h. absurd (omega arith);
}

module _ (count : ℕ) (rows : List Row) (start c : List ℕ) (moved : Bool) (seen : Seen) (n : ℕ) (r : Row) (row : slice_get rows n ≡ Some r) (rows_within : RowsWithin count rows) (key : List Part) (is : IsKey c r key) (p : Passing count rows start c moved seen n) where
  -- a key that was noted
  module _ (k : ℕ) (hit : seen key ≡ Some k) where
    pub passing_same : at c (r.place) ≡ at c k → Passing count rows start c moved seen (n + 1)
    passing_same e = record {
      all = p.all;
      sound = p.sound;
      joins = p.joins;
      within = p.within;
      noted = p.noted;
      found = λ m l s below h. elim (last_or n l below) [
        | inl same ↦
            let one : r ≡ s = one_item (slice_get rows n) r s row (ap (slice_get rows) (sym same) ∙ h) in
            (key, k, subst (λ z. IsKey c z key) one is, hit, sym e ∙ ap (λ z. at c (z.place)) one)
        | inr before ↦ p.found m l s before h
      ];
    }

    related : (pairs : Pairs) → Sound rows pairs start → Same rows pairs (r.place) k
    related pairs s =
        let o = p.noted pairs s key k hit in
        let w = rows_within n r row in
        let e = ends (is.ordered) (o.ordered) (r.label, pos 0) (o.row.label, pos 0) (sym (is.whole) ∙ o.whole) in
        let left = off_left (λ (q : Part). q.0 < count) w.1 (to_key c r key is) in
        let right = subst (λ qs. PairsOff (OneMark (Known rows pairs c)) qs (o.row.parts)) (sym e.0) (o.known) in
        let off = off_through left right in
        let long = p.all in
        let parts = off_map {s = OneMark (Same rows pairs)} (λ a b h. (ap (λ (z : Part). z.1) h.1.1 ∙ h.2.0, h.2.1 (a.0) (let below = h.1.0 in omega arith) (ap (λ (z : Part). z.0) h.1.1))) off in
        alike n (o.number) r (o.row) row (o.there) refl (o.of_place) (ap (λ (z : Part). z.0) e.1) (same_parts rows pairs parts)

    pub passing_joined : (d : List ℕ) → IsJoined (r.place) k c d → Passing count rows start d true seen (n + 1)
    passing_joined d joined =
        let e = p.all in
        let w = rows_within n r row in
        let u = w.0 in
        let here : r.place < length c = omega arith in
        let v = p.within key k hit in
        let there : k < length c = omega arith in
        let j = joins_joined c d (r.place) k joined in
        record {
          all = j.0 ∙ e;
          sound = λ pairs s. sound_joined rows pairs c d (r.place) k here there joined (p.sound pairs s) (related pairs s);
          joins = joins_on start c d (p.joins) j;
          within = p.within;
          noted = λ pairs s key' m h.
              let o = p.noted pairs s key' m h in
              record {
                number = o.number;
                row = o.row;
                there = o.there;
                of_place = o.of_place;
                ordered = o.ordered;
                whole = o.whole;
                known = off_map (λ a b g. (g.0, known_joined rows pairs c d (r.place) k here there joined (p.sound pairs s) (related pairs s) (a.0) (b.0) g.1)) (o.known);
              };
          found = λ m. absurd cc;
        }

  -- a new key
  pub passing_new : (seen' : Seen) → seen key ≡ None → seen' key ≡ Some (r.place) → ((other : List Part) → (other ≡ key) ⊎ (seen' other ≡ seen other)) → Passing count rows start c moved seen' (n + 1)
  passing_new seen' none new others = record {
    all = p.all;
    sound = p.sound;
    joins = p.joins;
    within = λ other k h. elim (others other) [
      | inl q ↦ let s : seen' other ≡ Some (r.place) = ap seen' q ∙ new in let t : k ≡ r.place = cc in let w = (rows_within n r row).0 in omega arith
      | inr q ↦ p.within other k (sym q ∙ h)
    ];
    noted = λ pairs s other k h. elim (others other) [
      | inl q ↦
          let t : seen' other ≡ Some (r.place) = ap seen' q ∙ new in
          let u : r.place ≡ k = cc in
          let long = p.all in
          let w = off_right (λ (a : Part). a.0 < count) (rows_within n r row).1 (from_key c r key is) in
          record {
            number = n;
            row = r;
            there = row;
            of_place = u;
            ordered = is.ordered;
            whole = q ∙ is.whole;
            known = off_map (λ a b g. (ap (λ (z : Part). z.1) g.1, λ j l e. p.sound pairs s j (b.0) l (let below = g.0 in omega arith) (e ∙ ap (λ (z : Part). z.0) g.1))) w;
          }
      | inr q ↦ p.noted pairs s other k (sym q ∙ h)
    ];
    found = λ m l s below h. elim (last_or n l below) [
      | inl same ↦
          let one : r ≡ s = one_item (slice_get rows n) r s row (ap (slice_get rows) (sym same) ∙ h) in
          (key, r.place, subst (λ z. IsKey c z key) one is, new, ap (λ z. at c (z.place)) one)
      | inr before ↦
          let f = p.found m l s before h in
          elim (others f.0) [
            | inl q ↦ let t : seen f.0 ≡ None = ap seen q ∙ none in let u = f.3 in absurd cc
            | inr q ↦ (f.0, f.1, f.2, q ∙ f.3, f.4)
          ]
    ];
  }

-- after all of them
pub passing_closed : (count : ℕ) (rows : List Row) (start c : List ℕ) (seen : Seen) (n : ℕ) → length rows ≤ n → Passing count rows start c false seen n → Closed rows c
passing_closed count rows start c seen n long p k l r s e d label off =
    let f = p.found refl k r (let b = in_list rows k r e in omega arith) e in
    let g = p.found refl l s (let b = in_list rows l s d in omega arith) d in
    let u = one_key c r s f.0 g.0 f.2 g.2 label off in
    let v : f.1 ≡ g.1 = let a = f.3 in let b = g.3 in cc in
    sym f.4 ∙ ap (at c) v ∙ g.4

pub or_false : (b : Bool) → (b || false) ≡ b
or_false true = refl
or_false false = refl

pub or_true : (b : Bool) → (b || true) ≡ true
or_true true = refl
or_true false = refl
