-- The links of a literal, in the words of the code.
use Rattle.std.proofs.Common.{◌≡◌, ◌⊎◌, ℕ, zero, suc, ◌<◌, ◌≤◌, ◌==◌, Bool, true, false, if◌then◌else◌, List, [], ◌∷◌, map, refl, sym, ◌∙◌, ap, subst, inl, inr, arith}
use Rattle.std.specs.Prelude.{ℤ, pos, neg_ℤ, ◌+ℤ◌, ◌*ℤ◌, Option, Some, None, slice_get, All}
use Rattle.std.proofs.lemmas.Int.{ints}
use Rattle.std.proofs.lemmas.List.Elements.{All-head, All-tail}
use Rattle.std.proofs.Math.IntN.{zero-*ℤ}
use Rattle.qed_terms.specs.Tree.{Tree}
use Rattle.qed_linear.specs.Linear as linear
use Rattle.qed_linear.specs.Linear.{Lin, lin}
use Rattle.qed_linear.proofs.Ring.{sum_times}
use Rattle.linear_chains.specs.Links.{Form, Link, IsAbove, IsOrdered, times_at, turned}
use Rattle.same_places.specs.Same.{Part, PartsWithin}
use Rattle.same_terms.specs.Written.{written}
use Rattle.same_terms.specs.Written as written_terms
use Rattle.same_terms.specs.SameTerms.{Among, InBranch}
use Rattle.same_terms.specs.Stands.{tree_parts}
use Rattle.same_terms.proofs.Terms.{EachAtom}
use Rattle.branch_links.specs.BranchLinks.{Says, IsWithin, BranchLink, IsLink, opposite}
use Rattle.branch_links.specs.Numbered.{TellApart, StandsFor}
use Rattle.branch_links.proofs.Sides.{here}
use Rattle.branch_links.proofs.Soundness.{says_in_branch}
use Rattle.class_links.specs.ClassForms.{AreLeast, number_part, atom_part, numbers_of, part_at, times_of, AreWithin, IsClassLink, opposite_link}
use Rattle.linear_prover.specs.LiteralLinks.{LinksOf}
use Rattle.linear_prover.specs.Relations.{related}
use Rattle.linear_prover.proofs.Relating.{says_at_most, says_equal, says_opposite, said_at_most, said_equal}
use Rattle.linear_prover.proofs.Standing.{EachPlace, is_link, stands, within_there, stands_there}

-- ---- a form turned

abbrev turned_places : List Part → List Part
turned_places [] = []
turned_places (p ∷ ps) = (p.0, neg_ℤ (p.1)) ∷ turned_places ps

negated_times : (z y : ℤ) → neg_ℤ z *ℤ y ≡ neg_ℤ (z *ℤ y)
negated_times z y =
    let e = sum_times z (neg_ℤ z) y in
    let n : z +ℤ neg_ℤ z ≡ pos 0 = omega (arith, ints) in
    let m = ap (λ x. x *ℤ y) n ∙ zero-*ℤ y in
    omega (arith, ints, e, m)

spread : (x y : ℤ) → neg_ℤ x +ℤ neg_ℤ y ≡ neg_ℤ (x +ℤ y)
spread x y = omega (arith, ints)

neg_twice : (z : ℤ) → neg_ℤ (neg_ℤ z) ≡ z
neg_twice z = omega (arith, ints)

within_turned : (z : ℤ) → IsWithin z → IsWithin (neg_ℤ z)
within_turned z w = let a = w.0 in let b = w.1 in (omega (arith, ints), omega (arith, ints))

within_back : (z : ℤ) → IsWithin (neg_ℤ z) → IsWithin z
within_back z w = subst IsWithin (neg_twice z) (within_turned (neg_ℤ z) w)

module _ (class : ℕ → ℕ) (look : ℕ → Option ℤ) where
  turned_number : (o : Option ℤ) (z : ℤ) → number_part o (neg_ℤ z) ≡ neg_ℤ (number_part o z)
  turned_number None z = refl
  turned_number (Some y) z = negated_times z y

  turned_atom : (b : Bool) (o : Option ℤ) (z : ℤ) → (if b then atom_part o (neg_ℤ z) else pos 0) ≡ neg_ℤ (if b then atom_part o z else pos 0)
  turned_atom true None z = refl
  turned_atom true (Some y) z = refl
  turned_atom false o z = refl

  numbers_turned : (ps : List Part) → numbers_of class look (turned_places ps) ≡ neg_ℤ (numbers_of class look ps)
  numbers_turned [] = refl
  numbers_turned (p ∷ ps) = (λ i. turned_number (look (class (p.0))) (p.1) i +ℤ numbers_turned ps i) ∙ spread (number_part (look (class (p.0))) (p.1)) (numbers_of class look ps)

  times_turned : (ps : List Part) (c : ℕ) → times_of class look (turned_places ps) c ≡ neg_ℤ (times_of class look ps c)
  times_turned [] c = refl
  times_turned (p ∷ ps) c = (λ i. turned_atom (class (p.0) == c) (look (class (p.0))) (p.1) i +ℤ times_turned ps c i) ∙ spread (part_at class look p c) (times_of class look ps c)

  bound_turned : (ps : List Part) (z : ℤ) → neg_ℤ (neg_ℤ z +ℤ numbers_of class look (turned_places ps)) ≡ neg_ℤ (neg_ℤ (z +ℤ numbers_of class look ps))
  bound_turned ps z = ap (λ x. neg_ℤ (neg_ℤ z +ℤ x)) (numbers_turned ps) ∙ ap neg_ℤ (spread z (numbers_of class look ps))

  all_within_turned : (ps : List Part) (z : ℤ) → AreWithin class look ps z → AreWithin class look (turned_places ps) (neg_ℤ z)
  all_within_turned ps z w = record {
    bound = subst IsWithin (sym (bound_turned ps z)) (within_turned (neg_ℤ (z +ℤ numbers_of class look ps)) (w.bound));
    times = λ c. subst IsWithin (sym (times_turned ps c)) (within_turned (times_of class look ps c) (w.times c));
  }

  all_within_back : (ps : List Part) (z : ℤ) → AreWithin class look (turned_places ps) (neg_ℤ z) → AreWithin class look ps z
  all_within_back ps z w = record {
    bound = within_back (neg_ℤ (z +ℤ numbers_of class look ps)) (subst IsWithin (bound_turned ps z) (w.bound));
    times = λ c. within_back (times_of class look ps c) (subst IsWithin (times_turned ps c) (w.times c));
  }

  above_turned : (c : ℕ) (f : Form) → IsAbove c f → IsAbove c (map turned f)
  above_turned c [] a = tt
  above_turned c (p ∷ f) a = a

  not_zero : (z : ℤ) → neg_ℤ z ≡ pos 0 → z ≡ pos 0
  not_zero z e = sym (neg_twice z) ∙ ap neg_ℤ e

  ordered_turned : (f : Form) → IsOrdered f → IsOrdered (map turned f)
  ordered_turned [] o = tt
  ordered_turned (p ∷ f) o = ((λ h. o.0 (not_zero (p.1) h)), above_turned (p.0) f (o.1), ordered_turned f (o.2))

  here_turned : (b : Bool) (z : ℤ) → (if b then neg_ℤ z else pos 0) ≡ neg_ℤ (if b then z else pos 0)
  here_turned true z = refl
  here_turned false z = refl

  form_turned : (f : Form) (c : ℕ) → times_at (map turned f) c ≡ neg_ℤ (times_at f c)
  form_turned [] c = refl
  form_turned (p ∷ f) c = (λ i. here_turned (p.0 == c) (p.1) i +ℤ form_turned f c i) ∙ spread (here (p.0) c (p.1)) (times_at f c)

  link_turned : (ps : List Part) (z : ℤ) (l : Link) → IsClassLink class look ps z l → IsClassLink class look (turned_places ps) (neg_ℤ z) (opposite_link l)
  link_turned ps z l is = record {
    bound = ap neg_ℤ (is.bound) ∙ sym (bound_turned ps z);
    ordered = ordered_turned (l.form) (is.ordered);
    same = λ c. form_turned (l.form) c ∙ ap neg_ℤ (is.same c) ∙ sym (times_turned ps c);
    within = all_within_turned ps z (is.within);
  }

parts_turned : (tree : ℕ → Tree) (ps : List Part) → tree_parts tree (turned_places ps) ≡ map written_terms.turned (tree_parts tree ps)
parts_turned tree [] = refl
parts_turned tree (p ∷ ps) = ap (λ qs. linear.part (tree (p.0)) (neg_ℤ (p.1)) ∷ qs) (parts_turned tree ps)

-- ---- the links of a literal

module _ (ls : List Tree) (count : ℕ) (tree : ℕ → Tree) (class : ℕ → ℕ) (look : ℕ → Option ℤ) (tells : TellApart ls count tree class) (least : AreLeast count tree class look) (literal : Tree) (among : Among literal ls) where
  pub links_none : ((f : Lin) → Says literal f → ⊥) → LinksOf ls count tree class literal []
  links_none none = record {
    each = λ k l e. absurd cc;
    every = λ m is e. absurd (none (is.form) (subst (λ t. Says t (is.form)) e (is.says)));
  }

  module _ (whole : ℕ) (within : count ≤ whole) (once : (i j : ℕ) → i < whole → j < whole → tree i ≡ tree j → i ≡ j) (sum : Tree) (ps : List Part) (z : ℤ) (form : lin (tree_parts tree ps) z ≡ written sum) (below : PartsWithin whole ps) where
    places : (qs : List Part) → PartsWithin whole qs → EachAtom (InBranch ls) (tree_parts tree qs) → EachPlace ls count tree class look tells least qs
    places [] b all = tt
    places (q ∷ qs) b all =
        let p = tells.place (tree (q.0)) all.0 in
        let l = All-head (λ (r : Part). r.0 < whole) q qs b in
        let same : p.0 ≡ q.0 = once p.0 (q.0) (let k = p.1 in omega arith) l p.2 in
        (subst (λ i. i < count) same p.1, all.0, places qs (All-tail (λ (r : Part). r.0 < whole) q qs b) all.1)

    places_turned : (qs : List Part) → EachPlace ls count tree class look tells least qs → EachPlace ls count tree class look tells least (turned_places qs)
    places_turned [] all = tt
    places_turned (q ∷ qs) all = (all.0, all.1, places_turned qs all.2)

    all_places : Says literal (written sum) → EachPlace ls count tree class look tells least ps
    all_places says = places ps below (subst (λ (f : Lin). EachAtom (InBranch ls) (f.parts)) (sym form) (says_in_branch ls literal (written sum) among says))

    form_opposite : lin (tree_parts tree (turned_places ps)) (neg_ℤ z) ≡ opposite (written sum)
    form_opposite = ap (λ qs. lin qs (neg_ℤ z)) (parts_turned tree ps) ∙ ap opposite form

    -- a link of the branch whose form this is
    record Fits (qs : List Part) (y : ℤ) (m : BranchLink) (is : IsLink ls m) : Type 0 where
      parts : m.parts ≡ tree_parts tree qs
      constant : is.form.constant ≡ y

    fits : (qs : List Part) (y : ℤ) (m : BranchLink) (is : IsLink ls m) → is.form ≡ lin (tree_parts tree qs) y → Fits qs y m is
    fits qs y m is e = record { parts = is.parts ∙ ap (λ (f : Lin). f.parts) e; constant = ap (λ (f : Lin). f.constant) e }

    -- ---- at most 0

    module _ (at_most : literal ≡ related false sum) where
      says : Says literal (written sum)
      says = says_at_most literal sum at_most

      said : (m : BranchLink) (is : IsLink ls m) → m.literal ≡ literal → Fits ps z m is
      said m is e = fits ps z m is (said_at_most literal sum (is.form) at_most (subst (λ t. Says t (is.form)) e (is.says)) ∙ sym form)

      pub at_most_beyond : (AreWithin class look ps z → ⊥) → LinksOf ls count tree class literal []
      at_most_beyond beyond = record {
        each = λ k l e. absurd cc;
        every = λ m is e.
            let f = said m is e in
            let w = within_there ls count tree class look tells least ps (all_places says) m is (f.parts) in
            absurd (beyond (subst (AreWithin class look ps) (f.constant) w));
      }

      pub at_most_link : (l : Link) → IsClassLink class look ps z l → LinksOf ls count tree class literal (l ∷ [])
      at_most_link l is = record {
        each = first_each;
        every = λ m in_branch e.
            let f = said m in_branch e in
            (zero, l, refl, stands_there ls count tree class look tells least ps (all_places says) m in_branch (f.parts) l (subst (λ y. IsClassLink class look ps y l) (sym (f.constant)) is));
      }
        where
          first_each : (k : ℕ) (l' : Link) → slice_get (l ∷ []) k ≡ Some l' → (m : BranchLink) × IsLink ls m × StandsFor ls count tree class l' m × (m.literal ≡ literal)
          first_each zero l' e =
              let same : l ≡ l' = cc in
              let is' = subst (IsClassLink class look ps z) same is in
              let s = subst (Says literal) (sym form) says in (
                record { literal = literal; parts = tree_parts tree ps; bound = l'.bound },
                is_link ls count tree class look tells least ps (all_places says) z literal s among l' is',
                stands ls count tree class look tells least ps (all_places says) z literal s among l' is',
                refl,
              )
          first_each (suc k) l' e = absurd cc

    -- ---- equal to 0

    module _ (equal : literal ≡ related true sum) where
      says_so : Says literal (written sum)
      says_so = says_equal literal sum equal

      either : (m : BranchLink) (is : IsLink ls m) → m.literal ≡ literal → Fits ps z m is ⊎ Fits (turned_places ps) (neg_ℤ z) m is
      either m is e = elim (said_equal literal sum (is.form) equal (subst (λ t. Says t (is.form)) e (is.says))) [
        | inl f ↦ inl (fits ps z m is (f ∙ sym form))
        | inr f ↦ inr (fits (turned_places ps) (neg_ℤ z) m is (f ∙ sym form_opposite))
      ]

      pub equal_beyond : (AreWithin class look ps z → ⊥) → LinksOf ls count tree class literal []
      equal_beyond beyond = record {
        each = λ k l e. absurd cc;
        every = λ m is e. elim (either m is e) [
          | inl f ↦
              let w = within_there ls count tree class look tells least ps (all_places says_so) m is (f.parts) in
              absurd (beyond (subst (AreWithin class look ps) (f.constant) w))
          | inr f ↦
              let w = within_there ls count tree class look tells least (turned_places ps) (places_turned ps (all_places says_so)) m is (f.parts) in
              absurd (beyond (all_within_back class look ps z (subst (AreWithin class look (turned_places ps)) (f.constant) w)))
        ];
      }

      pub equal_links : (l : Link) → IsClassLink class look ps z l → LinksOf ls count tree class literal (opposite_link l ∷ l ∷ [])
      equal_links l is = record {
        each = both_each;
        every = λ m in_branch e. elim (either m in_branch e) [
          | inl f ↦ (suc zero, l, refl, stands_there ls count tree class look tells least ps (all_places says_so) m in_branch (f.parts) l (subst (λ y. IsClassLink class look ps y l) (sym (f.constant)) is))
          | inr f ↦
              (zero, opposite_link l, refl, stands_there ls count tree class look tells least (turned_places ps) (places_turned ps (all_places says_so)) m in_branch (f.parts) (opposite_link l) (subst (λ y. IsClassLink class look (turned_places ps) y (opposite_link l)) (sym (f.constant)) (link_turned class look ps z l is)))
        ];
      }
        where
          both_each : (k : ℕ) (l' : Link) → slice_get (opposite_link l ∷ l ∷ []) k ≡ Some l' → (m : BranchLink) × IsLink ls m × StandsFor ls count tree class l' m × (m.literal ≡ literal)
          both_each zero l' e =
              let same : opposite_link l ≡ l' = cc in
              let is' = subst (IsClassLink class look (turned_places ps) (neg_ℤ z)) same (link_turned class look ps z l is) in
              let s = subst (Says literal) (sym form_opposite) (says_opposite literal sum equal) in
              let all = places_turned ps (all_places says_so) in (
                record { literal = literal; parts = tree_parts tree (turned_places ps); bound = l'.bound },
                is_link ls count tree class look tells least (turned_places ps) all (neg_ℤ z) literal s among l' is',
                stands ls count tree class look tells least (turned_places ps) all (neg_ℤ z) literal s among l' is',
                refl,
              )
          both_each (suc zero) l' e =
              let same : l ≡ l' = cc in
              let is' = subst (IsClassLink class look ps z) same is in
              let s = subst (Says literal) (sym form) says_so in (
                record { literal = literal; parts = tree_parts tree ps; bound = l'.bound },
                is_link ls count tree class look tells least ps (all_places says_so) z literal s among l' is',
                stands ls count tree class look tells least ps (all_places says_so) z literal s among l' is',
                refl,
              )
          both_each (suc (suc k)) l' e = absurd cc
