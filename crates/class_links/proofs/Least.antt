-- The table of the least number of each class.
use Rattle.std.proofs.Common.{◌≡◌, ◌⊎◌, ℕ, ◌+◌, ◌<◌, ◌==◌, Bool, true, false, List, refl, sym, ◌∙◌, ap, subst, inl, inr, arith}
use Rattle.std.specs.Prelude.{ℤ, ◌≤ℤ◌, Option, Some, None, nat_eq}
use Rattle.std.proofs.lemmas.Int.{ints}
use Rattle.std.specs.Map.{KeepsOthers}
use Rattle.qed_terms.specs.Tree.{Tree}
use Rattle.same_terms.specs.Written.{number_in}
use Rattle.class_links.specs.ClassForms.{number_for, AreLeast, HasLess, LacksLess}

class_is : (c d : ℕ) → nat_eq c d ≡ true → c ≡ d
class_is c d e = grind (arith, e)

pub other_classes : (class : ℕ) (old new : List (ℕ × ℤ)) → KeepsOthers nat_eq (nat_eq class) old new → (c : ℕ) → (c ≡ class) ⊎ (number_for new c ≡ number_for old c)
unfolding KeepsOthers
other_classes class old new keeps c = go (nat_eq c class) refl
  where
    go : (b : Bool) → nat_eq c class ≡ b → (c ≡ class) ⊎ (number_for new c ≡ number_for old c)
    go true e = inl (class_is c class e)
    go false n = inr (keeps (nat_eq c) (λ x y e. ap (λ z. nat_eq z y) (class_is c x e)) (λ k e. ap (nat_eq c) (sym (class_is class k e)) ∙ n))

at_last : (i n : ℕ) → i < n + 1 → (i ≡ n) ⊎ (i < n)
at_last i n l = go (i == n) refl
  where
    go : (b : Bool) → (i == n) ≡ b → (i ≡ n) ⊎ (i < n)
    go true e = inl (grind (arith, e))
    go false e = inr (grind (arith, e, l))

pub least_none : (tree : ℕ → Tree) (class : ℕ → ℕ) (look : ℕ → Option ℤ) → ((c : ℕ) → look c ≡ None) → AreLeast 0 tree class look
least_none tree class look none = record { found = λ c z e. let d = none c in absurd cc; least = λ i z l e. absurd (omega arith) }

module _ (n : ℕ) (tree : ℕ → Tree) (class : ℕ → ℕ) (look : ℕ → Option ℤ) (are : AreLeast n tree class look) where
  found_still : (c : ℕ) (z : ℤ) → look c ≡ Some z → (i : ℕ) × (i < n + 1) × (class i ≡ c) × (number_in (tree i) ≡ Some z)
  found_still c z e = let f = are.found c z e in (f.0, (let l = f.1 in omega arith), f.2, f.3)

  -- a place that is no number
  pub least_same : number_in (tree n) ≡ None → AreLeast (n + 1) tree class look
  least_same none = record {
    found = found_still;
    least = λ i z l e. elim (at_last i n l) [
      | inl s ↦ let d : None ≡ Some z = sym none ∙ ap (λ k. number_in (tree k)) (sym s) ∙ e in absurd cc
      | inr b ↦ are.least i z b e
    ];
  }

  module _ (x : ℤ) (number : number_in (tree n) ≡ Some x) where
    one_number : (i : ℕ) (z : ℤ) → i ≡ n → number_in (tree i) ≡ Some z → x ≡ z
    one_number i z s e = let d : Some x ≡ Some z = sym number ∙ ap (λ k. number_in (tree k)) (sym s) ∙ e in cc

    pub least_has : HasLess look (class n) x → AreLeast (n + 1) tree class look
    least_has h = record {
      found = found_still;
      least = λ i z l e. elim (at_last i n l) [
        | inl s ↦ (h.0, ap look (ap class s) ∙ h.1, subst (λ y. h.0 ≤ℤ y) (one_number i z s e) h.2)
        | inr b ↦ are.least i z b e
      ];
    }

    pub least_put : (look' : ℕ → Option ℤ) → LacksLess look (class n) x → look' (class n) ≡ Some x → ((c : ℕ) → (c ≡ class n) ⊎ (look' c ≡ look c)) → AreLeast (n + 1) tree class look'
    least_put look' lacks new others = record {
      found = λ c z e. elim (others c) [
        | inl s ↦ let d : Some x ≡ Some z = sym new ∙ ap look' (sym s) ∙ e in (n, omega arith, sym s, number ∙ d)
        | inr s ↦ found_still c z (sym s ∙ e)
      ];
      least = λ i z l e. elim (at_last i n l) [
        | inl s ↦ (x, ap look' (ap class s) ∙ new, subst (λ y. x ≤ℤ y) (one_number i z s e) (self x))
        | inr b ↦ let r = are.least i z b e in keeps (class i) r.0 z r.1 r.2
      ];
    }
      where
        self : (y : ℤ) → y ≤ℤ y
        self y = omega (arith, ints)

        keeps : (c : ℕ) (y z : ℤ) → look c ≡ Some y → y ≤ℤ z → (w : ℤ) × (look' c ≡ Some w) × (w ≤ℤ z)
        keeps c y z e h = elim (others c) [
          | inl s ↦ let a = lacks y (ap look (sym s) ∙ e) in (x, ap look' s ∙ new, below x y z a h)
          | inr s ↦ (y, s ∙ e, h)
        ]
          where
            below : (a b d : ℤ) → a ≤ℤ b → b ≤ℤ d → a ≤ℤ d
            below a b d l m = omega (arith, ints)
