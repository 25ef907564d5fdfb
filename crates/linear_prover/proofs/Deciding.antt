-- From links over the classes of a closed branch to the branch.
use Rattle.std.proofs.Common.{◌≡◌, ℕ, zero, suc, ◌==◌, ◌&&◌, Bool, true, false, List, [], ◌∷◌, ◌++◌, map, length, refl, sym, ◌∙◌, ap, subst, arith, ◌+◌, ◌<◌, get_or, take}
use Rattle.std.specs.Prelude.{ℤ, Option, Some, slice_get}
use Rattle.std.proofs.lemmas.List.{take_more}
use Rattle.qed_terms.specs.Tree.{Tree}
use Rattle.linear_chains.specs.Links.{Link}
use Rattle.linear_chains.specs.Chains.{AreOrdered, IsRefuted}
use Rattle.same_places.specs.Same.{at}
use Rattle.same_terms.specs.SameTerms.{itself}
use Rattle.tree_places.specs.Tables.{Node, tree_at}
use Rattle.branch_rows.specs.Marks.{mark_at}
use Rattle.congruence.specs.Closed.{IsClosed}
use Rattle.branch_links.specs.BranchLinks.{LinksRefute, RefutedBy}
use Rattle.branch_links.specs.Numbered.{TellApart, StandForAll, At}
use Rattle.branch_links.proofs.Classes.{from_classes, to_classes}
use Rattle.class_links.specs.ClassForms.{AreLeast}

and_left : (a b : Bool) → (a && b) ≡ true → a ≡ true
and_left true b e = refl
and_left false b e = absurd cc

and_right : (a b : Bool) → (a && b) ≡ true → b ≡ true
and_right true b e = e
and_right false b e = absurd cc

and_make : (a b : Bool) → a ≡ true → b ≡ true → (a && b) ≡ true
and_make true b e d = d
and_make false b e d = absurd cc

number_is : (a b : ℕ) → (a == b) ≡ true → a ≡ b
number_is a b e = grind (arith, e)

number_self : (a : ℕ) → (a == a) ≡ true
number_self a = grind arith

-- closed classes tell the terms of the branch apart
pub told_apart : (ls : List Tree) (ns : List Node) (marks : List Bool) (classes : List ℕ) → IsClosed ls ns marks classes → TellApart ls (length classes) (tree_at ns) (at classes)
told_apart ls ns marks classes is = record {
  place = is.place;
  same = λ i j l m b. (
    λ e.
        let self = (is.same i i l l).1 (itself b) in
        let marked = and_left (mark_at marks i) (at classes i == at classes i) self in
        (is.same i j l m).0 (and_make (mark_at marks i) (at classes i == at classes j) marked (ap (λ c. at classes i == c) (sym e) ∙ number_self (at classes i))),
    λ s. number_is (at classes i) (at classes j) (and_right (mark_at marks i) (at classes i == at classes j) ((is.same i j l m).1 s)),
  );
}

-- ---- literals at places

get_mapped : {A B : Type 0} (f : A → B) (xs : List A) (k : ℕ) (x : A) → slice_get xs k ≡ Some x → slice_get (map f xs) k ≡ Some (f x)
get_mapped f [] k x e = absurd cc
get_mapped f (z ∷ xs) zero x e = let d : z ≡ x = cc in ap (λ y. Some (f y)) d
get_mapped f (z ∷ xs) (suc k) x e = get_mapped f xs k x e

at_mapped : {A B : Type 0} (f : A → B) (xs : List A) (ks : List ℕ) (ys : List A) → At xs ks ys → At (map f xs) ks (map f ys)
at_mapped f xs [] [] a = tt
at_mapped f xs [] (y ∷ ys) a = absurd a
at_mapped f xs (k ∷ ks) [] a = absurd a
at_mapped f xs (k ∷ ks) (y ∷ ys) a = (get_mapped f xs k y a.0, at_mapped f xs ks ys a.1)

at_one : {A : Type 0} (xs : List A) (ks : List ℕ) (ys zs : List A) → At xs ks ys → At xs ks zs → ys ≡ zs
at_one xs [] [] [] a b = refl
at_one xs [] [] (z ∷ zs) a b = absurd b
at_one xs [] (y ∷ ys) zs a b = absurd a
at_one xs (k ∷ ks) [] zs a b = absurd a
at_one xs (k ∷ ks) (y ∷ ys) [] a b = absurd b
at_one xs (k ∷ ks) (y ∷ ys) (z ∷ zs) a b =
    let d : Some y ≡ Some z = sym a.0 ∙ b.0 in
    let e : y ≡ z = cc in
    let r = at_one xs ks ys zs a.1 b.1 in
    λ i. e i ∷ r i

pub at_next : (xs : List ℕ) (ks : List ℕ) (ys : List ℕ) (k y : ℕ) → At xs ks ys → slice_get xs k ≡ Some y → At xs (ks ++ k ∷ []) (ys ++ y ∷ [])
at_next xs [] [] k y a e = (e, tt)
at_next xs [] (z ∷ ys) k y a e = absurd a
at_next xs (m ∷ ks) [] k y a e = absurd a
at_next xs (m ∷ ks) (z ∷ ys) k y a e = (a.0, at_next xs ks ys k y a.1 e)

-- ---- the answer

module _ (ls : List Tree) (count : ℕ) (tree : ℕ → Tree) (class : ℕ → ℕ) (links : List Link) (literals : List ℕ) (tells : TellApart ls count tree class) (stand : StandForAll ls count tree class links (map tree literals)) where
  pub are_ordered : AreOrdered links
  are_ordered k l e = let r = stand.each k l e in r.2.ordered

  pub none_refute : ((ks : List ℕ) (total : ℤ) → IsRefuted links ks total → ⊥) → LinksRefute ls → ⊥
  none_refute none r = let t = to_classes ls count tree class tells links (map tree literals) stand r in none t.0 t.1 t.2

  pub some_refute : (ks : List ℕ) (total : ℤ) (taken : List ℕ) → IsRefuted links ks total → At literals ks taken → RefutedBy ls (map tree taken)
  some_refute ks total taken r a =
      let t = from_classes ls count tree class tells links (map tree literals) stand ks total r in
      let same = at_one (map tree literals) ks t.0 (map tree taken) t.1 (at_mapped tree literals ks taken a) in
      subst (RefutedBy ls) same t.2

-- one place more
pub at_more : (xs ks ys : List ℕ) (i : ℕ) → i < length ks → get_or ks i 0 < length xs → At xs (take i ks) ys → At xs (take (i + 1) ks) (ys ++ get_or xs (get_or ks i 0) 0 ∷ [])
at_more xs ks ys i l m a =
    subst (λ ms. At xs ms (ys ++ get_or xs (get_or ks i 0) 0 ∷ [])) (sym (take_more ks i 0 l)) (at_next xs (take i ks) ys (get_or ks i 0) (get_or xs (get_or ks i 0) 0) a (get_there xs (get_or ks i 0) m))
  where
    get_there : (xs : List ℕ) (k : ℕ) → k < length xs → slice_get xs k ≡ Some (get_or xs k 0)
    get_there [] k l = absurd (omega arith)
    get_there (x ∷ xs) zero l = refl
    get_there (x ∷ xs) (suc k) l = get_there xs k (omega arith)

-- ---- as the code has them

pub stand_there : (ls : List Tree) (ns : List Node) (marks : List Bool) (xs ys zs : List ℕ) (look : ℕ → Option ℤ) (links : List Link) (literals : List ℕ) → IsClosed ls ns marks xs → ys ≡ xs → zs ≡ xs → AreLeast (length ys) (tree_at ns) (at ys) look →
    (TellApart ls (length zs) (tree_at ns) (at zs) → AreLeast (length zs) (tree_at ns) (at zs) look → StandForAll ls (length zs) (tree_at ns) (at zs) links (map (tree_at ns) literals)) →
    StandForAll ls (length xs) (tree_at ns) (at xs) links (map (tree_at ns) literals)
stand_there ls ns marks xs ys zs look links literals is v w least stand =
    let given : TellApart ls (length xs) (tree_at ns) (at xs) → AreLeast (length xs) (tree_at ns) (at xs) look → StandForAll ls (length xs) (tree_at ns) (at xs) links (map (tree_at ns) literals) =
    subst (λ bs. TellApart ls (length bs) (tree_at ns) (at bs) → AreLeast (length bs) (tree_at ns) (at bs) look → StandForAll ls (length bs) (tree_at ns) (at bs) links (map (tree_at ns) literals)) w stand in
    given (told_apart ls ns marks xs is) (subst (λ bs. AreLeast (length bs) (tree_at ns) (at bs) look) v least)
