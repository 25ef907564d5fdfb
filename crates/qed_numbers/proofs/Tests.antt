-- What a test lets through, and what operators on numbers that may be none answer.
use Rattle.std.proofs.Common.{◌≡◌, ◌⊎◌, inl, inr, Bool, true, false, ◌&&◌, ◌||◌, cond, ℤ, List, [], ◌∷◌, refl}
use Rattle.std.specs.Prelude.{Option, Some, None}
use Rattle.qed_terms.specs.declared.head.Head.{Head}
use Rattle.qed_terms.specs.Tree.{Tree, Trees, num}
use Rattle.qed_linear.specs.Linear.{fits}
use Rattle.qed_numbers.specs.Numbers.{Rule, then_some, first_some, first_of_rules, of_one, of_two, fitted, as_num}

pub then_some_is : (b : Bool) (t w : Tree) → then_some b t ≡ Some w → (b ≡ true) × (t ≡ w)
then_some_is true t w k = (refl, cc)
then_some_is false t w k = absurd cc

pub either : (o p : Option Tree) (w : Tree) → first_some o p ≡ Some w → (o ≡ Some w) ⊎ (p ≡ Some w)
either (Some t) p w k = inl k
either None p w k = inr k

-- of each rule of a list
abbrev pub AllOf : (Rule → Type 0) → List Rule → Type 0
AllOf X [] = Unit {0}
AllOf X (r ∷ rs) = X r × AllOf X rs

-- what the first of them makes of a node one of them makes
pub first_one : (X : Rule → Type 0) (rs : List Rule) → AllOf X rs → (head : Head) (ts : Trees) (w : Tree) → first_of_rules rs head ts ≡ Some w → (r : Rule) × (X r × (r head ts ≡ Some w))
first_one X [] a head ts w k = absurd cc
first_one X (r ∷ rs) a head ts w k = elim (either (r head ts) (first_of_rules rs head ts) w k) [
  | inl e ↦ (r, (a.0, e))
  | inr e ↦ first_one X rs a.1 head ts w e
]

pub both_so : (p q : Bool) → p && q ≡ true → (p ≡ true) × (q ≡ true)
both_so true q k = (refl, k)
both_so false q k = absurd cc

pub or_either : (p q : Bool) → p || q ≡ true → (p ≡ true) ⊎ (q ≡ true)
or_either true q k = inl refl
or_either false q k = inr k

pub as_num_is : (o : Option ℤ) (w : Tree) → as_num o ≡ Some w → (z : ℤ) × (o ≡ Some z) × (w ≡ num z)
as_num_is None w k = absurd cc
as_num_is (Some z) w k = (z, refl, cc)

pub fitted_back : (o : Option ℤ) (z : ℤ) → fitted o ≡ Some z → o ≡ Some z
fitted_back None z k = absurd cc
fitted_back (Some y) z k = go (fits y) k
  where
    go : (b : Bool) → cond b (Some y) None ≡ Some z → Some y ≡ Some z
    go true e = e
    go false e = absurd cc

pub of_one_back : (f : ℤ → ℤ) (a : Option ℤ) (z : ℤ) → of_one f a ≡ Some z → (x : ℤ) × (a ≡ Some x) × (z ≡ f x)
of_one_back f None z k = absurd cc
of_one_back f (Some x) z k = (x, refl, cc)

pub of_two_back : (f : ℤ → ℤ → ℤ) (a b : Option ℤ) (z : ℤ) → of_two f a b ≡ Some z → (x : ℤ) × (y : ℤ) × (a ≡ Some x) × (b ≡ Some y) × (z ≡ f x y)
of_two_back f None b z k = absurd cc
of_two_back f (Some x) None z k = absurd cc
of_two_back f (Some x) (Some y) z k = (x, y, refl, refl, cc)
