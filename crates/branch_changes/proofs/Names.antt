-- A name that isn't in a formula may have any value.
use Rattle.std.proofs.Common.{◌≡◌, ℕ, ℤ, suc, ◌<◌, ◌⊎◌, Bool, true, false, not, ◌&&◌, cond, List, [], ◌∷◌, bytes_eq, refl, sym, ◌∙◌, ap, subst, inl, inr, arith}
use Rattle.std.proofs.lemmas.Bool.{cases_order}
use Rattle.qed_terms.specs.declared.head.Sort.{Sort}
use Rattle.qed_terms.specs.declared.head.Sort.TheVariants as sort
use Rattle.qed_terms.specs.declared.head.Head.{Head}
use Rattle.qed_terms.specs.declared.head.Head.TheVariants as h
use Rattle.qed_terms.specs.Free.{is_this, is_free, free_among, binds, AgreeOn, MeaningOfFreeNames}
use Rattle.qed_terms.specs.WellFormed.{same_sort}
use Rattle.qed_terms.specs.Meaning.{World, Values, Whole, with_int, truth, is_so, meaning}
use Rattle.qed_terms.specs.Tree.{Tree, node, Trees, stop, more}
use Rattle.branches.specs.Branch.{Branch, AreTrue, IsTrueUnder}
use Rattle.branch_changes.specs.NewNames.{is_named, is_in, is_in_one, is_among, is_in_branch, numbered_name, IsFirstNew}
use Rattle.branch_changes.proofs.Truths.{and_left, or_left, or_right, neither, not_true, same_name}

-- ---- what isn't in a tree isn't free in it

and_off : (p q : Bool) → p ≡ false → (p && q) ≡ false
and_off true q e = absurd cc
and_off false q e = refl

this_named : (x : List ℕ) (s : Sort) (head : Head) → is_named x head ≡ false → is_this x s head ≡ false
this_named x s (h.Var y r) e = and_off (bytes_eq x y) (same_sort s r) e
this_named x s (h.Num z) e = refl
this_named x s (h.Term o) e = refl
this_named x s h.Ite e = refl
this_named x s (h.App f) e = refl
this_named x s (h.Form o) e = refl
this_named x s h.True e = refl
this_named x s h.False e = refl
this_named x s h.Not e = refl
this_named x s h.And e = refl
this_named x s h.Or e = refl
this_named x s h.Imp e = refl
this_named x s h.Iff e = refl
this_named x s (h.Forall y) e = refl
this_named x s (h.Exists y) e = refl

module _ (x : List ℕ) (s : Sort) where
  mutual
    pub not_free : (t : Tree) → is_in x t ≡ false → is_free x s t ≡ false
    not_free (node head ts) e = neither (is_this x s head) (free_among (binds x s head) x s ts) (this_named x s head (or_left (is_named x head) (is_in_one x ts) e)) (none_free (binds x s head) ts (or_right (is_named x head) (is_in_one x ts) e))

    none_free : (bound : Bool) (ts : Trees) → is_in_one x ts ≡ false → free_among bound x s ts ≡ false
    none_free bound stop e = refl
    none_free bound (more t stop) e = not_free t (or_left (is_in x t) false e)
    none_free bound (more t (more u stop)) e =
        let r = or_right (is_in x t) (is_in_one x (more u stop)) e in
        neither (is_free x s t) (is_free x s u) (not_free t (or_left (is_in x t) (is_in_one x (more u stop)) e)) (not_free u (or_left (is_in x u) false r))
    none_free bound (more t (more u (more v ts))) e =
        let r = or_right (is_in x t) (is_in_one x (more u (more v ts))) e in
        let q = or_right (is_in x u) (is_in_one x (more v ts)) r in
        let a = not_free t (or_left (is_in x t) (is_in_one x (more u (more v ts))) e) in
        let b = not_free u (or_left (is_in x u) (is_in_one x (more v ts)) r) in
        let c = not_free v (or_left (is_in x v) (is_in_one x ts) q) in
        let d = none_free false ts (or_right (is_in x v) (is_in_one x ts) q) in
        neither _ (free_among false x s ts) (neither _ _ (neither (is_free x s t) (is_free x s u) a b) (third bound c)) d
      where
        third : (bound : Bool) {p : Bool} → p ≡ false → (not bound && p) ≡ false
        third true e = refl
        third false e = e

-- ---- so it may have any value

pub unseen : (t : Tree) (x : List ℕ) (z : ℤ) (env : Values) → is_free x sort.Int t ≡ false → AgreeOn t env (with_int env x z)
unseen t x z env none y sort.Int k = go (bytes_eq y x) refl
  where
    go : (b : Bool) → bytes_eq y x ≡ b → Whole (env.ints y) ≡ Whole (cond b z (env.ints y))
    go true e = absurd (not_true (is_free y sort.Int t) k (ap (λ v. is_free v sort.Int t) (same_name y x e) ∙ none))
    go false e = refl
unseen t x z env none y sort.Memory k = refl
unseen t x z env none y sort.Table k = refl

module _ (free_names : MeaningOfFreeNames) (w : World) (x : List ℕ) (z : ℤ) (env : Values) where
  pub means_as_before : (t : Tree) → is_in x t ≡ false → meaning w (with_int env x z) t ≡ meaning w env t
  means_as_before t e = sym (free_names w t env (with_int env x z) (unseen t x z env (not_free x sort.Int t e)))

  all_as_before : (fs : List Tree) → is_among x fs ≡ false → AreTrue w env fs → AreTrue w (with_int env x z) fs
  all_as_before [] e a = tt
  all_as_before (f ∷ fs) e a = (ap is_so (means_as_before f (or_left (is_in x f) (is_among x fs) e)) ∙ a.0, all_as_before fs (or_right (is_in x f) (is_among x fs) e) a.1)

  pub true_as_before : (b : Branch) → is_in_branch x b ≡ false → IsTrueUnder w env b → IsTrueUnder w (with_int env x z) b
  true_as_before b e a =
      (all_as_before b.literals (or_left (is_among x b.literals) (is_among x b.waiting) e) a.0, all_as_before b.waiting (or_right (is_among x b.literals) (is_among x b.waiting) e) a.1)

-- ---- there is one first new name

pub one_new : (b : Branch) (m n : ℕ) → IsFirstNew b m → IsFirstNew b n → m ≡ n
one_new b m n f g = go (cases_order m n)
  where
    go : (m ≡ n) ⊎ ((m < n) ⊎ (n < m)) → m ≡ n
    go (inl e) = e
    go (inr (inl k)) = absurd (not_true _ (g.earlier m f.counted k) f.new)
    go (inr (inr k)) = absurd (not_true _ (f.earlier n g.counted k) g.new)
