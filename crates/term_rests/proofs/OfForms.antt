-- The pairs of the form of an equality are its rests.
use Rattle.std.proofs.Common.{◌≡◌, ℕ, zero, suc, ◌+◌, ◌<◌, ◌≤◌, List, [], ◌∷◌, ◌++◌, map, length, get_or, take, drop, refl, sym, ◌∙◌, ap, subst, inl, inr, arith}
use Rattle.std.specs.Prelude.{pos, Some, slice_get}
use Rattle.qed_terms.specs.Nodes.{kids_of}
use Rattle.qed_terms.specs.Tree.{Tree, head_of, num, equal}
use Rattle.qed_linear.specs.Linear.{Lin, part, of_lin, checked, is_integer}
use Rattle.same_places.specs.Same as places
use Rattle.same_places.specs.Same.{Pairs, PartsWithin}
use Rattle.same_terms.specs.SameTerms.{unit_times, IsRest}
use Rattle.same_terms.specs.Stands.{tree_part, tree_parts}
use Rattle.same_terms.specs.Written.{written, rest_form}
use Rattle.term_forms.specs.declared.forms.Form.{Form}
use Rattle.term_forms.specs.Forms.{lin_of}
use Rattle.term_rests.specs.Rests.{part_at, HasRest, ArePairs, AreRests}

-- ---- a list around one place

split : {A B : Type 0} (f : A → B) (d : A) (xs : List A) (n : ℕ) → n < length xs → map f xs ≡ map f (take n xs) ++ f (get_or xs n d) ∷ map f (drop (n + 1) xs)
split f d [] n l = absurd (omega arith)
split f d (x ∷ xs) zero l = refl
split f d (x ∷ xs) (suc n) l =
    let e : suc (n + 1) ≡ suc n + 1 = omega arith in
    ap (λ ys. f x ∷ ys) (split f d xs n (omega arith)) ∙ ap (λ m. f x ∷ map f (take n xs) ++ f (get_or xs n d) ∷ map f (drop m (x ∷ xs))) e

map_both : {A B : Type 0} (f : A → B) (xs ys : List A) → map f (xs ++ ys) ≡ map f xs ++ map f ys
map_both f [] ys = refl
map_both f (x ∷ xs) ys = ap (λ zs. f x ∷ zs) (map_both f xs ys)

record Around {A B : Type 0} (f : A → B) (d : A) (xs : List A) (before : List B) (y : B) (behind : List B) : Type 0 where
  within : length before < length xs
  item : f (get_or xs (length before) d) ≡ y
  front : map f (take (length before) xs) ≡ before
  back : map f (drop (length before + 1) xs) ≡ behind

around : {A B : Type 0} (f : A → B) (d : A) (xs : List A) (before : List B) (y : B) (behind : List B) → map f xs ≡ before ++ y ∷ behind → Around f d xs before y behind
around f d [] [] y behind e = absurd cc
around f d [] (b ∷ before) y behind e = absurd cc
around f d (x ∷ xs) [] y behind e = record { within = omega arith; item = cc; front = refl; back = cc }
around f d (x ∷ xs) (b ∷ before) y behind e =
    let r = around f d xs before y behind (cc) in
    let h : f x ≡ b = cc in
    let m : suc (length before + 1) ≡ suc (length before) + 1 = omega arith in
    record { within = (let l = r.within in omega arith); item = r.item; front = (λ i. h i ∷ r.front i); back = sym (ap (λ n. map f (drop n (x ∷ xs))) m) ∙ r.back }

-- ---- the rests

module _ (count count' : ℕ) (tree tree' : ℕ → Tree) (same : (k : ℕ) → k < count → tree' k ≡ tree k) (more : count ≤ count') (f : Form) (within : PartsWithin count (f.parts.items)) (s l : Tree) (is : lin_of tree f ≡ written s) (literal : l ≡ equal s (num (pos 0))) (pairs : Pairs) (are : ArePairs count' tree tree' f (length (f.parts.items)) pairs) where
  items : List places.Part
  items = f.parts.items

  parts_are : (written s).parts ≡ tree_parts tree (f.parts.items)
  parts_are = sym (ap (λ z. z.parts) is)

  constant_is : (written s).constant ≡ f.constant
  constant_is = sym (ap (λ z. z.constant) is)

  is_rest : (at : ℕ) (rest : Lin) → at < length (f.parts.items) → HasRest tree f at rest → IsRest (l ∷ []) (tree ((part_at f at).0)) (of_lin rest)
  is_rest at rest k h = record {
    sum = s;
    literal = inl (sym literal);
    plus = h.plus;
    before = tree_parts tree (take at (f.parts.items));
    behind = tree_parts tree (drop (at + 1) (f.parts.items));
    there = parts_are ∙ split (tree_part tree) (0, pos 0) (f.parts.items) at k ∙ ap (λ z. tree_parts tree (take at (f.parts.items)) ++ part (tree ((part_at f at).0)) z ∷ tree_parts tree (drop (at + 1) (f.parts.items))) (h.unit);
    integer = h.integer;
    form = rest;
    fits = ap checked ((λ i. rest_form (h.plus) (sym (map_both (tree_part tree) (take at (f.parts.items)) (drop (at + 1) (f.parts.items))) i) (constant_is i))) ∙ h.fits;
    is = refl;
  }

  sum_is : (t : Tree) → equal t (num (pos 0)) ≡ l → t ≡ s
  sum_is t e = let d : t ∷ num (pos 0) ∷ [] ≡ s ∷ num (pos 0) ∷ [] = ap kids_of (e ∙ literal) in cc

  has_rest : (a r : Tree) (e : IsRest (l ∷ []) a r) → (at : ℕ) × (at < length (f.parts.items)) × (tree ((part_at f at).0) ≡ a) × HasRest tree f at (e.form)
  has_rest a r e =
      let t = sum_is (e.sum) (elim (e.literal) [ inl z ↦ z | inr z ↦ absurd z ]) in
      let there : tree_parts tree (f.parts.items) ≡ (e.before) ++ part a (unit_times (e.plus)) ∷ (e.behind) = sym parts_are ∙ ap (λ z. (written z).parts) (sym t) ∙ e.there in
      let v = around (tree_part tree) (0, pos 0) (f.parts.items) (e.before) (part a (unit_times (e.plus))) (e.behind) there in
      let atom : tree ((part_at f (length (e.before))).0) ≡ a = ap (λ p. p.atom) (v.item) in (
        length (e.before),
        v.within,
        atom,
        record {
          plus = e.plus;
          unit = ap (λ p. p.times) (v.item);
          integer = ap (λ z. is_integer (head_of z)) atom ∙ e.integer;
          fits = ap checked (λ i. rest_form (e.plus) ((map_both (tree_part tree) (take (length (e.before)) (f.parts.items)) (drop (length (e.before) + 1) (f.parts.items)) ∙ (λ j. v.front j ++ v.back j)) i) ((sym constant_is ∙ ap (λ z. (written z).constant) (sym t)) i)) ∙ e.fits;
        },
      )

  pub of_form : AreRests count' tree' (l ∷ []) pairs
  of_form = record {
    each = λ k i j e.
        let r = are.each k i j e in
        let b = within r.0 (0, pos 0) r.2 in
        let atom : tree' i ≡ tree ((part_at f r.0).0) = ap tree' r.4 ∙ same ((part_at f r.0).0) b in
        ((let p = r.4 in omega arith), r.5, subst (λ z. IsRest (l ∷ []) z (tree' j)) (sym atom) (subst (λ z. IsRest (l ∷ []) (tree ((part_at f r.0).0)) z) (sym r.6) (is_rest r.0 r.1 r.2 r.3)));
    every = λ a r e.
        let v = has_rest a r e in
        let w = are.every v.0 (e.form) v.1 v.3 in
        let b = within v.0 (0, pos 0) v.1 in
        (w.0, (part_at f v.0).0, w.1, w.2, same ((part_at f v.0).0) b ∙ v.2, w.3 ∙ sym (e.is));
  }

-- a literal that is no equality has none
pub of_none : (count : ℕ) (tree : ℕ → Tree) (l : Tree) (pairs : Pairs) → pairs ≡ [] → ((s : Tree) → l ≡ equal s (num (pos 0)) → ⊥) → AreRests count tree (l ∷ []) pairs
of_none count tree l pairs none isnt = record {
  each = λ k i j e. let d : slice_get [] k ≡ Some (i, j) = ap (λ ps. slice_get ps k) (sym none) ∙ e in absurd cc;
  every = λ a r e. absurd (isnt (e.sum) (elim (e.literal) [ inl z ↦ sym z | inr z ↦ absurd z ]));
}
