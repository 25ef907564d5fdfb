-- Tests joined, and kids of quantifiers that are well formed.
use Rattle.std.proofs.Common.{◌≡◌, ℕ, zero, suc, ◌==◌, [], ◌∷◌, Bool, true, false, not, ◌&&◌, ◌||◌, refl, arith}
use Rattle.std.proofs.lemmas.Bool.Decides.{nat_tests}
use Rattle.qed_terms.specs.Tree.{Tree, Trees, stop, more, three}
use Rattle.qed_terms.specs.WellFormed.{int, formula, fits, all_fit}
use Rattle.stored_puts.specs.Kids.{is_third}

pub and_left : (p q : Bool) → p && q ≡ true → p ≡ true
and_left true q e = refl
and_left false q e = absurd cc

pub and_right : (p q : Bool) → p && q ≡ true → q ≡ true
and_right true q e = e
and_right false q e = absurd cc

pub and_both : (p q : Bool) → p ≡ true → q ≡ true → p && q ≡ true
and_both true q e f = f
and_both false q e f = absurd cc

pub or_left : (p q : Bool) → p || q ≡ false → p ≡ false
or_left true q e = absurd cc
or_left false q e = refl

pub or_right : (p q : Bool) → p || q ≡ false → q ≡ false
or_right true q e = absurd cc
or_right false q e = e

pub and_true : (p : Bool) → p && true ≡ p
and_true true = refl
and_true false = refl

pub and_false : (p : Bool) → p && false ≡ false
and_false true = refl
and_false false = refl

pub or_false : (p : Bool) → p || false ≡ p
or_false true = refl
or_false false = refl

pub or_true : (p : Bool) → p || true ≡ true
or_true true = refl
or_true false = refl

pub or_turned : (p q : Bool) → p || q ≡ q || p
or_turned true true = refl
or_turned true false = refl
or_turned false true = refl
or_turned false false = refl

pub and_turned : (p q : Bool) → p && q ≡ q && p
and_turned true true = refl
and_turned true false = refl
and_turned false true = refl
and_turned false false = refl

pub and_three : (p q r : Bool) → p && (q && (r && true)) ≡ (p && q) && r
and_three true true r = and_true r
and_three true false r = refl
and_three false q r = refl

pub or_four : (p q r rest : Bool) → p || (q || (r || rest)) ≡ ((p || q) || r) || rest
or_four true q r rest = refl
or_four false true r rest = refl
or_four false false r rest = refl

pub not_false : (p : Bool) → not p ≡ false → p ≡ true
not_false true e = refl
not_false false e = absurd cc

pub not_true : (p : Bool) → not p ≡ true → p ≡ false
not_true true e = absurd cc
not_true false e = refl

-- ---- the third

pub third_is : (n : ℕ) → n == 2 ≡ is_third n
third_is zero = refl
third_is (suc zero) = refl
third_is (suc (suc zero)) = refl
third_is (suc (suc (suc n))) = other n
  where
    other : (n : ℕ) → suc (suc (suc n)) == 2 ≡ false
    other n = grind (arith, nat_tests)

-- ---- quantifiers have a beginning, an end and a body

pub by_three : (P : Trees → Type 0) → ((low high body : Tree) → P (three low high body)) → (ts : Trees) → all_fit (int ∷ int ∷ formula ∷ []) ts ≡ true → P ts
by_three P f stop e = absurd cc
by_three P f (more a stop) e = let q = and_right (fits int a) false e in absurd cc
by_three P f (more a (more b stop)) e = let q = and_right (fits int b) false (and_right (fits int a) (fits int b && false) e) in absurd cc
by_three P f (more a (more b (more c stop))) e = f a b c
by_three P f (more a (more b (more c (more d ts)))) e =
    let q = and_right (fits formula c) false (and_right (fits int b) (fits formula c && false) (and_right (fits int a) (fits int b && (fits formula c && false)) e)) in absurd cc
