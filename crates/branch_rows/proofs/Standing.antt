-- Rows of marked places stand for the terms of a branch.
use Rattle.std.proofs.Common.{◌≡◌, ◌⊎◌, ℕ, zero, suc, ◌<◌, ◌==◌, Bool, true, List, [], ◌∷◌, ◌++◌, map, length, refl, sym, ◌∙◌, ap, subst, inl, inr, arith}
use Rattle.std.specs.Prelude.{Option, Some, slice_get, All}
use Rattle.std.proofs.lemmas.List.Elements.{All-append, All-cons}
use Rattle.qed_terms.specs.declared.head.Head.{Head}
use Rattle.qed_terms.specs.declared.head.Head.TheVariants as h
use Rattle.qed_terms.specs.Tree.{Tree}
use Rattle.same_places.specs.Same.{Row, Pairs}
use Rattle.same_terms.specs.SameTerms.{Among, StandsIn, InBranch}
use Rattle.same_terms.specs.Stands.{Label, over_kids, over_atoms, StandsFor, Stand}
use Rattle.tree_places.specs.Heads.{AreHeads}
use Rattle.tree_places.specs.Tables.{Node, trees_in, tree_at, IsTable, Grows}
use Rattle.tree_places.proofs.Nodes.{once, older, map_same, grows_long}
use Rattle.term_rests.specs.Rests.{AreRests}
use Rattle.branch_rows.specs.Marks.{mark_at, is_among, Under, AreMarks}
use Rattle.branch_rows.specs.Rows.{AreRows}
use Rattle.branch_rows.specs.Branch.{rest_places, MarkBranch}
use Rattle.branch_rows.proofs.Marking.{or_either, or_first, or_second, number_is, number_self}
use Rattle.branch_rows.proofs.Down.{among_mapped, among_unmapped, place_under}

-- ---- labels

module _ (number : Head → Option ℕ) (heads : ℕ) (are : AreHeads number heads) where
  one_number : (g k : Head) (a b : ℕ) → number g ≡ Some a → number k ≡ Some b → a ≡ b → g ≡ k
  one_number g k a b e d same = are.one g k a e (d ∙ ap Some (sym same))

  one_meaning : (n : ℕ) (x y : Label) → StandsFor number n x → StandsFor number n y → x ≡ y
  one_meaning n (over_kids g) (over_kids k) s r = let a = s.2 in let b = r.2 in ap over_kids (one_number g k s.0 r.0 s.1 r.1 (omega (arith, a, b)))
  one_meaning n (over_kids g) (over_atoms z) s r = let a = s.2 in let b = r.2 in absurd (omega (arith, a, b))
  one_meaning n (over_atoms y) (over_kids k) s r = let a = s.2 in let b = r.2 in absurd (omega (arith, a, b))
  one_meaning n (over_atoms y) (over_atoms z) s r =
      let a = s.2 in
      let b = r.2 in
      let d : h.Num y ≡ h.Num z = one_number (h.Num y) (h.Num z) s.0 r.0 s.1 r.1 (omega (arith, a, b)) in
      let e : y ≡ z = cc in
      ap over_atoms e

  one_label : (m n : ℕ) (x : Label) → StandsFor number m x → StandsFor number n x → m ≡ n
  one_label m n (over_kids g) s r = let d : Some (s.0) ≡ Some (r.0) = sym s.1 ∙ r.1 in let e : s.0 ≡ r.0 = cc in let a = s.2 in let b = r.2 in omega (arith, a, b, e)
  one_label m n (over_atoms z) s r = let d : Some (s.0) ≡ Some (r.0) = sym s.1 ∙ r.1 in let e : s.0 ≡ r.0 = cc in let a = s.2 in let b = r.2 in omega (arith, a, b, e)

-- ---- roots

among_left : (k : ℕ) (ps qs : List ℕ) → is_among k ps ≡ true → is_among k (ps ++ qs) ≡ true
among_left k [] qs e = absurd cc
among_left k (p ∷ ps) qs e = elim (or_either (k == p) (is_among k ps) e) [
  | inl d ↦ or_first (k == p) (is_among k (ps ++ qs)) d
  | inr d ↦ or_second (k == p) (is_among k (ps ++ qs)) (among_left k ps qs d)
]

among_right : (k : ℕ) (ps qs : List ℕ) → is_among k qs ≡ true → is_among k (ps ++ qs) ≡ true
among_right k [] qs e = e
among_right k (p ∷ ps) qs e = or_second (k == p) (is_among k (ps ++ qs)) (among_right k ps qs e)

among_either : (k : ℕ) (ps qs : List ℕ) → is_among k (ps ++ qs) ≡ true → (is_among k ps ≡ true) ⊎ (is_among k qs ≡ true)
among_either k [] qs e = inr e
among_either k (p ∷ ps) qs e = elim (or_either (k == p) (is_among k (ps ++ qs)) e) [
  | inl d ↦ inl (or_first (k == p) (is_among k ps) d)
  | inr d ↦ elim (among_either k ps qs d) [ inl a ↦ inl (or_second (k == p) (is_among k ps) a) | inr b ↦ inr b ]
]

rest_among : (ps : Pairs) (k i j : ℕ) → slice_get ps k ≡ Some (i, j) → is_among j (rest_places ps) ≡ true
rest_among [] k i j e = absurd cc
rest_among (p ∷ ps) zero i j e = let d : p ≡ (i, j) = cc in or_first (j == p.1) (is_among j (rest_places ps)) (ap (λ (z : ℕ × ℕ). j == z.1) d ∙ number_self j)
rest_among (p ∷ ps) (suc k) i j e = or_second (j == p.1) (is_among j (rest_places ps)) (rest_among ps k i j e)

rest_pair : (ps : Pairs) (j : ℕ) → is_among j (rest_places ps) ≡ true → (k : ℕ) × (i : ℕ) × (slice_get ps k ≡ Some (i, j))
rest_pair [] j e = absurd cc
rest_pair (p ∷ ps) j e = elim (or_either (j == p.1) (is_among j (rest_places ps)) e) [
  | inl d ↦ (zero, p.0, ap (λ z. Some (p.0, z)) (sym (number_is j p.1 d)))
  | inr d ↦ let r = rest_pair ps j d in (suc r.0, r.1, r.2)
]

rests_below : (count : ℕ) (ps : Pairs) → ((k i j : ℕ) → slice_get ps k ≡ Some (i, j) → j < count) → All (λ k. k < count) (rest_places ps)
rests_below count [] all = λ k d l. absurd (omega arith)
rests_below count (p ∷ ps) all = All-cons (λ k. k < count) p.1 (rest_places ps) (all 0 p.0 p.1 refl) (rests_below count ps (λ k i j e. all (suc k) i j e))

pub literals_same : (old ns : List Node) (literals : List ℕ) → length (trees_in old) ≡ length old → Grows old ns → All (λ k. k < length old) literals → map (tree_at ns) literals ≡ map (tree_at old) literals
literals_same old ns literals all grows below = map_same (tree_at ns) (tree_at old) literals (λ k d l. older old ns all grows _ (below k d l))

pub literals_below : (old ns : List Node) (literals : List ℕ) → Grows old ns → All (λ k. k < length old) literals → All (λ k. k < length ns) literals
literals_below old ns literals grows below = λ k d l. let b = below k d l in let m = grows_long old ns grows in omega arith

module _ (ls : List Tree) (ns : List Node) (literals : List ℕ) (pairs : Pairs) (are : map (tree_at ns) literals ≡ ls) (rests : AreRests (length ns) (tree_at ns) ls pairs) where
  pub roots_below : All (λ k. k < length ns) literals → All (λ k. k < length ns) (literals ++ rest_places pairs)
  roots_below below = All-append (λ k. k < length ns) literals (rest_places pairs) below (rests_below (length ns) pairs (λ k i j e. (rests.each k i j e).1))

  under_of : (t : Tree) → InBranch ls t → Under ns (literals ++ rest_places pairs) t
  under_of t (inl x) =
      let q = among_unmapped (tree_at ns) literals x.0 (subst (Among x.0) (sym are) x.1) in
      (q.0, among_left q.0 literals (rest_places pairs) q.1, subst (StandsIn t) (sym q.2) x.2)
  under_of t (inr x) =
      let v = rests.every x.0 x.1 x.2 in
      (v.2, among_right v.2 literals (rest_places pairs) (rest_among pairs v.0 v.1 v.2 v.3), subst (StandsIn t) (sym v.5) x.3)

  in_branch : (t : Tree) → Under ns (literals ++ rest_places pairs) t → InBranch ls t
  in_branch t u = elim (among_either u.0 literals (rest_places pairs) u.1) [
    | inl a ↦ inl (tree_at ns u.0, subst (Among (tree_at ns u.0)) are (among_mapped (tree_at ns) literals u.0 a), u.2)
    | inr b ↦ let p = rest_pair pairs u.0 b in inr (tree_at ns p.1, tree_at ns u.0, (rests.each p.0 p.1 u.0 p.2).2, u.2)
  ]

  module _ (marks : List Bool) (marked : AreMarks ns (literals ++ rest_places pairs) marks) where
    pub mark_branch : MarkBranch ls (length ns) (tree_at ns) marks
    mark_branch = record {
      all = marked.all;
      each = λ k l. (λ m. in_branch (tree_at ns k) ((marked.each k l).0 m), λ b. (marked.each k l).1 (under_of (tree_at ns k) b));
    }

    pub stand : (number : Head → Option ℕ) (find : List ℕ → Option ℕ) (heads : ℕ) (rows : List Row) → AreHeads number heads → IsTable ns number find → All (λ k. k < length ns) literals → AreRows (tree_at ns) number (length ns) (mark_at marks) (length ns) rows → Stand ls (length ns) (tree_at ns) (StandsFor number) rows pairs
    stand number find heads rows numbers t below so = record {
      rows_within = so.within;
      pairs_within = λ k i j e. let r = rests.each k i j e in (r.0, r.1);
      once = once ns number find t;
      place = λ v b. place_under ns number find t (literals ++ rest_places pairs) (roots_below below) v (under_of v b);
      one_meaning = one_meaning number heads numbers;
      one_label = one_label number heads numbers;
      row_is = λ k r e. let x = so.each k r e in let w = so.within k r e in ((mark_branch.each (r.place) w.0).0 x.0, x.1);
      kids_row = λ i l b unbound. so.kids i l ((mark_branch.each i l).1 b) unbound;
      atoms_row = λ i l b sum. so.atoms i l ((mark_branch.each i l).1 b) sum;
      pair_is = λ k i j e. (rests.each k i j e).2;
      pair_of = rests.every;
    }
