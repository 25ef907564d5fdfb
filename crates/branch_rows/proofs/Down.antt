-- The way down from roots: what stands in them has marked places.
use Rattle.std.proofs.Common.{◌≡◌, ◌⊎◌, ℕ, ◌+◌, ◌<◌, ◌≤◌, ◌==◌, ◌||◌, ◌&&◌, Bool, true, false, List, [], ◌∷◌, map, length, refl, sym, ◌∙◌, ap, subst, inl, inr, arith}
use Rattle.std.specs.Prelude.{Option, Some, None, slice_get, All, if◌then◌else◌}
use Rattle.std.proofs.lemmas.List.Elements.{All-head, All-tail}
use Rattle.qed_terms.specs.declared.head.Head.{Head}
use Rattle.qed_terms.specs.Nodes.{kids_of}
use Rattle.qed_terms.specs.Tree.{Tree, head_of, list_of, kids_in}
use Rattle.qed_terms.proofs.Lists.{list_of-trees_of}
use Rattle.same_terms.specs.SameTerms.{Among, is_binder, StandsIn, as_whole, in_kid}
use Rattle.same_terms.proofs.Terms.{stands_through}
use Rattle.tree_places.specs.Tables.{Node, tree_at, IsTable}
use Rattle.tree_places.proofs.Nodes.{get_below, get_there, once}
use Rattle.branch_rows.specs.Marks.{mark_at, is_among, open_kids, kids_at, AlsoMarked, KidsMarked, Under, GoneDown, AreMarks}
use Rattle.branch_rows.proofs.Marking.{or_either, or_first, or_second, and_both, number_is, number_self}

pub among_all : (P : ℕ → Type 0) (ks : List ℕ) (k : ℕ) → All P ks → is_among k ks ≡ true → P k
among_all P [] k all e = absurd cc
among_all P (p ∷ ks) k all e = elim (or_either (k == p) (is_among k ks) e) [
  | inl d ↦ subst P (sym (number_is k p d)) (All-head P p ks all)
  | inr d ↦ among_all P ks k (All-tail P p ks all) d
]

pub among_mapped : (f : ℕ → Tree) (ks : List ℕ) (k : ℕ) → is_among k ks ≡ true → Among (f k) (map f ks)
among_mapped f [] k e = absurd cc
among_mapped f (p ∷ ks) k e = elim (or_either (k == p) (is_among k ks) e) [ inl d ↦ inl (ap f (number_is k p d)) | inr d ↦ inr (among_mapped f ks k d) ]

pub among_unmapped : (f : ℕ → Tree) (ks : List ℕ) (t : Tree) → Among t (map f ks) → (k : ℕ) × (is_among k ks ≡ true) × (f k ≡ t)
among_unmapped f [] t m = absurd m
among_unmapped f (p ∷ ks) t m = elim m [
  | inl e ↦ (p, or_first (p == p) (is_among p ks) (number_self p), sym e)
  | inr r ↦ let q = among_unmapped f ks t r in (q.0, or_second (q.0 == p) (is_among q.0 ks) q.1, q.2)
]

module _ (ns : List Node) (number : Head → Option ℕ) (find : List ℕ → Option ℕ) (t : IsTable ns number find) where
  kids_there : (i : ℕ) (n : Node) → slice_get ns i ≡ Some n → kids_of (tree_at ns i) ≡ map (tree_at ns) (n.kids)
  kids_there i n e = ap (λ z. list_of (kids_in z)) (t.is i n e) ∙ list_of-trees_of (map (tree_at ns) (n.kids))

  head_there : (i : ℕ) (n : Node) → slice_get ns i ≡ Some n → head_of (tree_at ns i) ≡ n.head
  head_there i n e = ap head_of (t.is i n e)

  -- a kid outside of quantifiers is one of the tree
  abbrev IsKid : ℕ → ℕ → Type 0
  IsKid i k = (i < length ns) × (k < i) × (is_binder (head_of (tree_at ns i)) ≡ false) × Among (tree_at ns k) (kids_of (tree_at ns i))

  open_kid : (i k : ℕ) → is_among k (kids_at ns i) ≡ true → IsKid i k
  open_kid i k e = go (slice_get ns i) refl
    where
      inside : (n : Node) → slice_get ns i ≡ Some n → (b : Bool) → is_binder (n.head) ≡ b → IsKid i k
      inside n there true bound = let d : is_among k [] ≡ true = ap (λ b. is_among k (if b then [] else n.kids)) (sym bound) ∙ ap (λ o. is_among k (open_kids o)) (sym there) ∙ e in absurd cc
      inside n there false bound =
          let d : is_among k (n.kids) ≡ true = ap (λ b. is_among k (if b then [] else n.kids)) (sym bound) ∙ ap (λ o. is_among k (open_kids o)) (sym there) ∙ e in
          (get_below ns i n there, among_all (λ z. z < i) (n.kids) k (t.before i n there) d, ap is_binder (head_there i n there) ∙ bound, subst (Among (tree_at ns k)) (sym (kids_there i n there)) (among_mapped (tree_at ns) (n.kids) k d))

      go : (o : Option Node) → slice_get ns i ≡ o → IsKid i k
      go None none = let d : is_among k [] ≡ true = ap (λ o. is_among k (open_kids o)) (sym none) ∙ e in absurd cc
      go (Some n) there = inside n there (is_binder (n.head)) refl

  kid_open : (i : ℕ) (u : Tree) → i < length ns → is_binder (head_of (tree_at ns i)) ≡ false → Among u (kids_of (tree_at ns i)) → (k : ℕ) × (is_among k (kids_at ns i) ≡ true) × (tree_at ns k ≡ u)
  kid_open i u l unbound m =
      let n = get_there ns i l in
      let q = among_unmapped (tree_at ns) (n.0.kids) u (subst (Among u) (kids_there i n.0 n.1) m) in
      let b : is_binder (n.0.head) ≡ false = ap is_binder (sym (head_there i n.0 n.1)) ∙ unbound in
      (q.0, ap (λ o. is_among q.0 (open_kids o)) n.1 ∙ ap (λ b. is_among q.0 (if b then [] else n.0.kids)) b ∙ q.1, q.2)

  -- what stands in the tree of a place has a place, of which holds what goes down to kids
  pub down : (P : ℕ → Type 0) → ((i k : ℕ) → P i → is_among k (kids_at ns i) ≡ true → P k) → {v u : Tree} → StandsIn v u → (p : ℕ) → p < length ns → tree_at ns p ≡ u → P p → (q : ℕ) × (q < length ns) × (tree_at ns q ≡ v) × P q
  down P on as_whole p l e h = (p, l, e, h)
  down P on (in_kid {u} k unbound m s) p l e h =
      let r = kid_open p k l (ap (λ z. is_binder (head_of z)) e ∙ unbound) (subst (λ z. Among k (kids_of z)) (sym e) m) in
      let x = open_kid p r.0 r.1 in
      let below : r.0 < length ns = let a = x.0 in let b = x.1 in omega arith in
      down P on s r.0 below r.2 (on p r.0 h r.1)

  module _ (roots : List ℕ) where
    pub roots_marked : (c d : List Bool) → ((k : ℕ) → mark_at c k ≡ false) → length c ≡ length ns → AlsoMarked roots c d → GoneDown ns roots (length ns) d
    roots_marked c d none long so = record {
      all = so.all ∙ long;
      under = λ k e. (k, sym (ap (λ b. b || is_among k roots) (none k)) ∙ sym (so.each k) ∙ e, as_whole);
      closed = λ i k l e m. let x = open_kid i k m in let a = x.0 in absurd (omega arith);
      rooted = λ k e. so.each k ∙ or_second (mark_at c k) (is_among k roots) e;
    }

    module _ (p : ℕ) (c d : List Bool) (so : KidsMarked ns p c d) (gone : GoneDown ns roots (p + 1) c) where
      grown : (k : ℕ) → mark_at c k ≡ true → mark_at d k ≡ true
      grown k e = so.each k ∙ or_first (mark_at c k) (mark_at c p && is_among k (kids_at ns p)) e

      old_or_kid : (k : ℕ) → mark_at d k ≡ true → (mark_at c k ≡ true) ⊎ ((mark_at c p ≡ true) × (is_among k (kids_at ns p) ≡ true))
      old_or_kid k e = elim (or_either (mark_at c k) (mark_at c p && is_among k (kids_at ns p)) (sym (so.each k) ∙ e)) [
        | inl o ↦ inl o
        | inr m ↦ inr (and_both (mark_at c p) (is_among k (kids_at ns p)) m)
      ]

      -- from the place on nothing is marked anew
      old_above : (i : ℕ) → p ≤ i → mark_at d i ≡ true → mark_at c i ≡ true
      old_above i l e = elim (old_or_kid i e) [ inl o ↦ o | inr m ↦ let x = open_kid p i m.1 in let b = x.1 in absurd (omega arith) ]

      kids_of_it : (i k : ℕ) → p ≡ i → mark_at c i ≡ true → is_among k (kids_at ns i) ≡ true → mark_at d k ≡ true
      kids_of_it i k e o m =
          so.each k ∙ or_second (mark_at c k) (mark_at c p && is_among k (kids_at ns p)) ((λ z. mark_at c (e z) && is_among k (kids_at ns (e z))) ∙ (λ z. o z && m z))

      pub gone_more : GoneDown ns roots p d
      gone_more = record {
        all = so.all ∙ gone.all;
        under = λ k e. elim (old_or_kid k e) [
          | inl o ↦ gone.under k o
          | inr m ↦
              let u = gone.under p m.0 in
              let x = open_kid p k m.1 in
              (u.0, u.1, stands_through (in_kid (tree_at ns k) x.2 x.3 as_whole) u.2)
        ];
        closed = λ i k l e m. step i k (p == i) refl l (old_above i l e) m;
        rooted = λ k e. grown k (gone.rooted k e);
      }
        where
          apart : (i : ℕ) → (p == i) ≡ false → p ≤ i → p + 1 ≤ i
          apart i e l = grind (arith, e, l)

          step : (i k : ℕ) (b : Bool) → (p == i) ≡ b → p ≤ i → mark_at c i ≡ true → is_among k (kids_at ns i) ≡ true → mark_at d k ≡ true
          step i k true e l o m = kids_of_it i k (number_is p i e) o m
          step i k false e l o m = grown k (gone.closed i k (apart i e l) o m)

    pub are_marks : (marks : List Bool) → All (λ k. k < length ns) roots → GoneDown ns roots 0 marks → AreMarks ns roots marks
    are_marks marks below gone = record {
      all = gone.all;
      each = λ k l. (
        gone.under k,
        λ u.
            let q = down (λ i. mark_at marks i ≡ true) (λ i j h m. gone.closed i j (omega arith) h m) u.2 u.0 (among_all (λ z. z < length ns) roots u.0 below u.1) refl (gone.rooted u.0 u.1) in
            ap (mark_at marks) (sym (once ns number find t q.0 k q.1 l q.2)) ∙ q.3,
      );
    }

    pub place_under : All (λ k. k < length ns) roots → (v : Tree) → Under ns roots v → (q : ℕ) × (q < length ns) × (tree_at ns q ≡ v)
    place_under below v u =
        let q = down (λ i. Unit {0}) (λ i j h m. tt) u.2 u.0 (among_all (λ z. z < length ns) roots u.0 below u.1) refl tt in
        (q.0, q.1, q.2)
