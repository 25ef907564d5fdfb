-- The rests of several literals together.
use Rattle.std.proofs.Common.{◌≡◌, ◌⊎◌, ℕ, zero, suc, ◌+◌, ◌<◌, ◌≤◌, List, [], ◌∷◌, ◌++◌, map, length, get_or, take, sym, ◌∙◌, ap, subst, inl, inr, arith}
use Rattle.std.specs.Prelude.{pos, Some, slice_get}
use Rattle.std.proofs.lemmas.List.{map_push, take_more}
use Rattle.qed_terms.specs.Tree.{Tree, num, equal}
use Rattle.same_places.specs.Same.{Pairs}
use Rattle.same_terms.specs.SameTerms.{Among, IsRest}
use Rattle.tree_places.proofs.Nodes.{get_front}
use Rattle.term_rests.specs.Rests.{AreRests}

in_front : (t : Tree) (ls ms : List Tree) → Among t ls → Among t (ls ++ ms)
in_front t [] ms h = absurd h
in_front t (l ∷ ls) ms h = elim h [ inl e ↦ inl e | inr r ↦ inr (in_front t ls ms r) ]

in_back : (t : Tree) (ls ms : List Tree) → Among t ms → Among t (ls ++ ms)
in_back t [] ms h = h
in_back t (l ∷ ls) ms h = inr (in_back t ls ms h)

in_either : (t : Tree) (ls ms : List Tree) → Among t (ls ++ ms) → Among t ls ⊎ Among t ms
in_either t [] ms h = inr h
in_either t (l ∷ ls) ms h = elim h [
  | inl e ↦ inl (inl e)
  | inr r ↦ elim (in_either t ls ms r) [ inl a ↦ inl (inr a) | inr b ↦ inr b ]
]

-- the same rest among other literals
moved : (ls ms : List Tree) (a r : Tree) (e : IsRest ls a r) → Among (equal (e.sum) (num (pos 0))) ms → IsRest ms a r
moved ls ms a r e m = record {
  sum = e.sum;
  literal = m;
  plus = e.plus;
  before = e.before;
  behind = e.behind;
  there = e.there;
  integer = e.integer;
  form = e.form;
  fits = e.fits;
  is = e.is;
}

get_behind : {A : Type 0} (xs ys : List A) (k : ℕ) (x : A) → slice_get ys k ≡ Some x → slice_get (xs ++ ys) (length xs + k) ≡ Some x
get_behind [] ys k x e = let n : 0 + k ≡ k = omega arith in ap (slice_get ys) n ∙ e
get_behind (z ∷ xs) ys k x e = let n : suc (length xs) + k ≡ suc (length xs + k) = omega arith in ap (slice_get (z ∷ (xs ++ ys))) n ∙ get_behind xs ys k x e

get_either : {A : Type 0} (xs ys : List A) (k : ℕ) (x : A) → slice_get (xs ++ ys) k ≡ Some x → (slice_get xs k ≡ Some x) ⊎ ((m : ℕ) × (slice_get ys m ≡ Some x))
get_either [] ys k x e = inr (k, e)
get_either (z ∷ xs) ys zero x e = inl e
get_either (z ∷ xs) ys (suc k) x e = get_either xs ys k x e

module _ (count count' : ℕ) (tree tree' : ℕ → Tree) (same : (k : ℕ) → k < count → tree' k ≡ tree k) (more : count ≤ count') (ls ms : List Tree) (ps qs : Pairs) (are : AreRests count tree ls ps) (new : AreRests count' tree' ms qs) where
  pub together : AreRests count' tree' (ls ++ ms) (ps ++ qs)
  together = record {
    each = λ k i j e. elim (get_either ps qs k (i, j) e) [
      | inl old ↦
          let r = are.each k i j old in
          let h = subst (λ z. IsRest ls z (tree' j)) (sym (same i r.0)) (subst (λ z. IsRest ls (tree i) z) (sym (same j r.1)) r.2) in
          ((let l = r.0 in omega arith), (let l = r.1 in omega arith), moved ls (ls ++ ms) (tree' i) (tree' j) h (in_front (equal (h.sum) (num (pos 0))) ls ms (h.literal)))
      | inr now ↦
          let r = new.each now.0 i j now.1 in
          (r.0, r.1, moved ms (ls ++ ms) (tree' i) (tree' j) r.2 (in_back (equal (r.2.sum) (num (pos 0))) ls ms (r.2.literal)))
    ];
    every = λ a r e. elim (in_either (equal (e.sum) (num (pos 0))) ls ms (e.literal)) [
      | inl m ↦
          let v = are.every a r (moved (ls ++ ms) ls a r e m) in
          let w = are.each v.0 v.1 v.2 v.3 in
          (v.0, v.1, v.2, get_front ps qs v.0 (v.1, v.2) v.3, same v.1 w.0 ∙ v.4, same v.2 w.1 ∙ v.5)
      | inr m ↦ let v = new.every a r (moved (ls ++ ms) ms a r e m) in (length ps + v.0, v.1, v.2, get_behind ps qs v.0 (v.1, v.2) v.3, v.4, v.5)
    ];
  }

pub none_yet : (count : ℕ) (tree : ℕ → Tree) (pairs : Pairs) → pairs ≡ [] → AreRests count tree [] pairs
none_yet count tree pairs none = record {
  each = λ k i j e. let d : slice_get [] k ≡ Some (i, j) = ap (λ ps. slice_get ps k) (sym none) ∙ e in absurd cc;
  every = λ a r e. absurd (e.literal);
}

pub literals_more : (tree : ℕ → Tree) (ks : List ℕ) (i : ℕ) → i < length ks → map tree (take (i + 1) ks) ≡ map tree (take i ks) ++ tree (get_or ks i 0) ∷ []
literals_more tree ks i l = ap (map tree) (take_more ks i 0 l) ∙ map_push tree (take i ks) (get_or ks i 0)
