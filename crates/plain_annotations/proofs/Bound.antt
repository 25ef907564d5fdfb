-- What is closed stays so where more names are bound.
use Rattle.std.proofs.Common.{◌≡◌, ℕ, Bool, true, false, not, ◌&&◌, ◌||◌, List, ◌∷◌, refl}
use Rattle.std.specs.Str.{bytes_eq}
use Rattle.std.specs.List.{list_any}
use Rattle.std.proofs.lemmas.Bool.{and_parts, false≢true}
use Rattle.qed_terms.specs.declared.head.Sort.TheVariants as sort
use Rattle.qed_terms.specs.declared.head.Head.TheVariants as th
use Rattle.qed_terms.specs.Tree as tree
use Rattle.qed_terms.specs.Tree.{Tree as Term, var, num, ite, not_of, and_of, or_of, imp_of, trees_of}
use Rattle.acsl_encode.specs.Readings.{Terms, integer, truth, address, variable, elements, region, nothing}
use Rattle.program_steps.specs.Leaves.{is_marked, is_closed, are_closed}
use Rattle.plain_annotations.specs.Views.{TermsAreClosed}

-- ---- more names that are bound

abbrev pub Within : (xs ys : List (List ℕ)) → Type 0
Within xs ys = (n : List ℕ) → list_any (bytes_eq n) xs ≡ true → list_any (bytes_eq n) ys ≡ true

pub one_within : (x : List ℕ) (xs ys : List (List ℕ)) → Within xs ys → Within (x ∷ xs) (x ∷ ys)
one_within x xs ys w n = by (bytes_eq n x)
  where
    by : (b : Bool) → (b || list_any (bytes_eq n) xs) ≡ true → (b || list_any (bytes_eq n) ys) ≡ true
    by true e = refl
    by false e = w n e

pub marked_within : (b : Bool) (x : List ℕ) (xs ys : List (List ℕ)) → Within xs ys → (not b || list_any (bytes_eq x) xs) ≡ true → (not b || list_any (bytes_eq x) ys) ≡ true
marked_within true x xs ys w e = w x e
marked_within false x xs ys w e = refl

mutual
  pub still_closed : (t : Term) (xs ys : List (List ℕ)) → Within xs ys → is_closed xs t ≡ true → is_closed ys t ≡ true
  still_closed (tree.node (th.Var x sort.Int) ts) xs ys w e = marked_within (is_marked x) x xs ys w e
  still_closed (tree.node (th.Var x sort.Memory) ts) xs ys w e = absurd (false≢true e)
  still_closed (tree.node (th.Var x sort.Table) ts) xs ys w e = absurd (false≢true e)
  still_closed (tree.node (th.Num z) ts) xs ys w e = all_still_closed ts xs ys w e
  still_closed (tree.node (th.Term o) ts) xs ys w e = all_still_closed ts xs ys w e
  still_closed (tree.node th.Ite ts) xs ys w e = all_still_closed ts xs ys w e
  still_closed (tree.node (th.App f) ts) xs ys w e = all_still_closed ts xs ys w e
  still_closed (tree.node (th.Form o) ts) xs ys w e = all_still_closed ts xs ys w e
  still_closed (tree.node th.True ts) xs ys w e = all_still_closed ts xs ys w e
  still_closed (tree.node th.False ts) xs ys w e = all_still_closed ts xs ys w e
  still_closed (tree.node th.Not ts) xs ys w e = all_still_closed ts xs ys w e
  still_closed (tree.node th.And ts) xs ys w e = all_still_closed ts xs ys w e
  still_closed (tree.node th.Or ts) xs ys w e = all_still_closed ts xs ys w e
  still_closed (tree.node th.Imp ts) xs ys w e = all_still_closed ts xs ys w e
  still_closed (tree.node th.Iff ts) xs ys w e = all_still_closed ts xs ys w e
  still_closed (tree.node (th.Forall x) tree.stop) xs ys w e = absurd (false≢true (and_parts (is_marked x) false e).1)
  still_closed (tree.node (th.Forall x) (tree.more low tree.stop)) xs ys w e = absurd (false≢true (and_parts (is_marked x) false e).1)
  still_closed (tree.node (th.Forall x) (tree.more low (tree.more high tree.stop))) xs ys w e = absurd (false≢true (and_parts (is_marked x) false e).1)
  still_closed (tree.node (th.Forall x) (tree.more low (tree.more high (tree.more body tree.stop)))) xs ys w e =
      let both = and_parts (is_marked x) (is_closed xs low && is_closed xs high && is_closed (x ∷ xs) body) e in
      let all = and_parts (is_closed xs low && is_closed xs high) (is_closed (x ∷ xs) body) both.1 in
      let ends = and_parts (is_closed xs low) (is_closed xs high) all.0 in
      let m = both.0 in
      let a = still_closed low xs ys w ends.0 in
      let b = still_closed high xs ys w ends.1 in
      let c = still_closed body (x ∷ xs) (x ∷ ys) (one_within x xs ys w) all.1 in
      λ i. m i && (a i && b i && c i)
  still_closed (tree.node (th.Forall x) (tree.more low (tree.more high (tree.more body (tree.more t ts))))) xs ys w e = absurd (false≢true (and_parts (is_marked x) false e).1)
  still_closed (tree.node (th.Exists x) tree.stop) xs ys w e = absurd (false≢true (and_parts (is_marked x) false e).1)
  still_closed (tree.node (th.Exists x) (tree.more low tree.stop)) xs ys w e = absurd (false≢true (and_parts (is_marked x) false e).1)
  still_closed (tree.node (th.Exists x) (tree.more low (tree.more high tree.stop))) xs ys w e = absurd (false≢true (and_parts (is_marked x) false e).1)
  still_closed (tree.node (th.Exists x) (tree.more low (tree.more high (tree.more body tree.stop)))) xs ys w e =
      let both = and_parts (is_marked x) (is_closed xs low && is_closed xs high && is_closed (x ∷ xs) body) e in
      let all = and_parts (is_closed xs low && is_closed xs high) (is_closed (x ∷ xs) body) both.1 in
      let ends = and_parts (is_closed xs low) (is_closed xs high) all.0 in
      let m = both.0 in
      let a = still_closed low xs ys w ends.0 in
      let b = still_closed high xs ys w ends.1 in
      let c = still_closed body (x ∷ xs) (x ∷ ys) (one_within x xs ys w) all.1 in
      λ i. m i && (a i && b i && c i)
  still_closed (tree.node (th.Exists x) (tree.more low (tree.more high (tree.more body (tree.more t ts))))) xs ys w e = absurd (false≢true (and_parts (is_marked x) false e).1)

  pub all_still_closed : (ts : tree.Trees) (xs ys : List (List ℕ)) → Within xs ys → are_closed xs ts ≡ true → are_closed ys ts ≡ true
  all_still_closed tree.stop xs ys w e = refl
  all_still_closed (tree.more t ts) xs ys w e =
      let b = and_parts (is_closed xs t) (are_closed xs ts) e in
      let x = still_closed t xs ys w b.0 in
      let y = all_still_closed ts xs ys w b.1 in
      λ i. x i && y i

pub terms_within : (x : Terms) (xs ys : List (List ℕ)) → Within xs ys → TermsAreClosed xs x → TermsAreClosed ys x
terms_within (integer k t) xs ys w e = still_closed t xs ys w e
terms_within (truth f) xs ys w e = still_closed f xs ys w e
terms_within (address b o) xs ys w e = tt
terms_within (variable x) xs ys w e = tt
terms_within (elements b o n i j) xs ys w e = tt
terms_within (region cells b i j) xs ys w e = tt
terms_within nothing xs ys w e = tt
