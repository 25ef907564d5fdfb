-- Tests on integers, and truth values.
use Rattle.std.proofs.Common.{◌≡◌, ◌⊎◌, zero, suc, Bool, true, false, not, ◌&&◌, ◌||◌, T, refl, ap, inl, inr, arith}
use Rattle.std.specs.Prelude.{ℤ, pos, negsuc, ◌-ℤ◌, ◌≤ℤ◌, ◌<ℤ◌, int_lt, int_le, List, [], ◌∷◌, ◌++◌, map, Some}
use Rattle.std.proofs.lemmas.Int.{ints}
use Rattle.std.proofs.lemmas.Float.{T_from_true}
use lib.Signed.{le_z_yes, lt_z_yes}
use Rattle.qed_terms.specs.Operators.{is_zero, is_equal}
use Rattle.qed_terms.specs.Meaning.{World, Values, truth, value, meanings, is_so, some_true}
use Rattle.qed_terms.specs.declared.head.Head.TheVariants as h
use Rattle.qed_terms.specs.Tree.{Tree, node, trees_of}
use Rattle.qed_numbers.specs.Numbers.{number_at}
use Rattle.branches.specs.Branch.{AreTrue}

-- ---- truth values

pub first : (p q : Bool) → p ≡ true → (p || q) ≡ true
first true q e = refl
first false q e = absurd cc

pub second : (p q : Bool) → q ≡ true → (p || q) ≡ true
second true q e = refl
second false q e = e

pub both : (p q : Bool) → p ≡ true → q ≡ true → (p && q) ≡ true
both true q e f = f
both false q e f = absurd cc

pub and_left : (p q : Bool) → (p && q) ≡ true → p ≡ true
and_left true q e = refl
and_left false q e = e

pub and_right : (p q : Bool) → (p && q) ≡ true → q ≡ true
and_right true q e = e
and_right false q e = absurd cc

-- a disjunction of one
pub alone : (p : Bool) → p ≡ true → (p || false) ≡ true
alone true e = refl
alone false e = absurd cc

pub negated : (p : Bool) → p ≡ false → not p ≡ true
negated true e = absurd cc
negated false e = refl

-- ---- integers

from_T : (b : Bool) → T b → b ≡ true
from_T true t = refl
from_T false t = absurd t

pub le_fact : (a b : ℤ) → int_le a b ≡ true → a ≤ℤ b
le_fact a b k = le_z_yes (T_from_true (int_le a b) k)

pub le_so : (a b : ℤ) → a ≤ℤ b → int_le a b ≡ true
le_so a b k = from_T (int_le a b) k.le

pub lt_fact : (a b : ℤ) → int_lt a b ≡ true → a <ℤ b
lt_fact a b k = lt_z_yes (T_from_true (int_lt a b) k)

pub lt_so : (a b : ℤ) → a <ℤ b → int_lt a b ≡ true
lt_so a b k = from_T (int_lt a b) k.lt

pub lt_or_le : (a b : ℤ) → (a <ℤ b) ⊎ (b ≤ℤ a)
lt_or_le a b = go (int_lt a b) refl
  where
    go : (v : Bool) → int_lt a b ≡ v → (a <ℤ b) ⊎ (b ≤ℤ a)
    go true e = inl (lt_fact a b e)
    go false e = inr (omega (arith, ints, e))

pub equal_so : (a b : ℤ) → a ≡ b → is_equal a b ≡ true
equal_so a b e = let z : a -ℤ b ≡ pos 0 = omega (arith, ints, e) in ap is_zero z

zero_only : (z : ℤ) → is_zero z ≡ true → z ≡ pos 0
zero_only (pos zero) k = refl
zero_only (pos (suc n)) k = absurd cc
zero_only (negsuc n) k = absurd cc

pub equal_fact : (a b : ℤ) → is_equal a b ≡ true → a ≡ b
equal_fact a b k = omega (arith, ints, zero_only (a -ℤ b) k)

pub unequal_so : (a b : ℤ) → (a ≡ b → ⊥) → is_equal a b ≡ false
unequal_so a b n = go (is_equal a b) refl
  where
    go : (v : Bool) → is_equal a b ≡ v → v ≡ false
    go true e = absurd (n (equal_fact a b e))
    go false e = refl

-- the one is less, or the other, or they are equal
pub ordered : (a b : ℤ) → (int_lt a b || (int_lt b a || (is_equal a b || false))) ≡ true
ordered a b = elim (lt_or_le a b) [
  | inl k ↦ first (int_lt a b) _ (lt_so a b k)
  | inr k ↦ second (int_lt a b) _ (elim (lt_or_le b a) [
    | inl l ↦ first (int_lt b a) _ (lt_so b a l)
    | inr l ↦ second (int_lt b a) _ (alone (is_equal a b) (equal_so a b (omega (arith, ints, k, l))))
  ])
]

-- the one is less, or the other, where they aren't equal
pub ordered_apart : (a b : ℤ) → not (is_equal a b) ≡ true → (int_lt a b || (int_lt b a || false)) ≡ true
ordered_apart a b n = elim (lt_or_le a b) [
  | inl k ↦ first (int_lt a b) _ (lt_so a b k)
  | inr k ↦ second (int_lt a b) _ (elim (lt_or_le b a) [
    | inl l ↦ alone (int_lt b a) (lt_so b a l)
    | inr l ↦ absurd (no (is_equal a b) (equal_so a b (omega (arith, ints, k, l))) n)
  ])
]
  where
    no : (v : Bool) → v ≡ true → not v ≡ true → ⊥
    no true e f = absurd cc
    no false e f = absurd cc

-- ---- formulas

module _ (w : World) (env : Values) where
  -- the number that a term is
  pub number_means : (t : Tree) (z : ℤ) → number_at t ≡ Some z → value w env t ≡ z
  number_means (node (h.Num y) ts) z k = cc
  number_means (node head ts) z k = absurd cc

  abbrev pub some_so : List Tree → Bool
  some_so fs = some_true (map is_so (meanings w env (trees_of fs)))

  pub some_front : (fs gs : List Tree) → some_so fs ≡ true → some_so (fs ++ gs) ≡ true
  some_front [] gs e = absurd cc
  some_front (f ∷ fs) gs e = go (truth w env f) e (some_front fs gs)
    where
      go : (b : Bool) → (b || some_so fs) ≡ true → (some_so fs ≡ true → some_so (fs ++ gs) ≡ true) → (b || some_so (fs ++ gs)) ≡ true
      go true k r = refl
      go false k r = r k

  pub some_behind : (fs gs : List Tree) → some_so gs ≡ true → some_so (fs ++ gs) ≡ true
  some_behind [] gs e = e
  some_behind (f ∷ fs) gs e = second (truth w env f) _ (some_behind fs gs e)

  pub all_true : (fs gs : List Tree) → AreTrue w env fs → AreTrue w env gs → AreTrue w env (fs ++ gs)
  all_true [] gs a b = b
  all_true (f ∷ fs) gs a b = (a.0, all_true fs gs a.1 b)
