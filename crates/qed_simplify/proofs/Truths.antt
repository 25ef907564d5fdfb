-- Truth values under and and or, and under quantifiers.
use Rattle.std.proofs.Common.{◌≡◌, ℕ, zero, suc, Bool, true, false, not, ◌&&◌, ◌||◌, ℤ, pos, ◌+ℤ◌, refl, sym, ◌∙◌, ap}
use Rattle.wp_base.specs.Blocks.{same_truth}
use Rattle.qed_terms.specs.Meaning.{all_from, some_from}

-- ---- truth values

unfoldable pub both : Bool → Bool → Bool → Bool
both true a c = a && c
both false a c = a || c

pub both_assoc : (b x y z : Bool) → both b (both b x y) z ≡ both b x (both b y z)
unfolding both
both_assoc true true y z = refl
both_assoc true false y z = refl
both_assoc false true y z = refl
both_assoc false false y z = refl

pub both_comm : (b x y : Bool) → both b x y ≡ both b y x
unfolding both
both_comm true true true = refl
both_comm true true false = refl
both_comm true false true = refl
both_comm true false false = refl
both_comm false true true = refl
both_comm false true false = refl
both_comm false false true = refl
both_comm false false false = refl

pub both_unit : (b x : Bool) → both b b x ≡ x
unfolding both
both_unit true x = refl
both_unit false x = refl

pub both_absorber : (b x : Bool) → both b (not b) x ≡ not b
unfolding both
both_absorber true x = refl
both_absorber false x = refl

pub both_itself : (b x y : Bool) → both b x (both b x y) ≡ both b x y
unfolding both
both_itself true true y = refl
both_itself true false y = refl
both_itself false true y = refl
both_itself false false y = refl

pub both_opposed : (b x : Bool) → both b x (not x) ≡ not b
unfolding both
both_opposed true true = refl
both_opposed true false = refl
both_opposed false true = refl
both_opposed false false = refl

pub not_and : (a b : Bool) → not (a && b) ≡ not a || not b
not_and true b = refl
not_and false b = refl

pub not_or : (a b : Bool) → not (a || b) ≡ not a && not b
not_or true b = refl
not_or false b = refl

pub not_not : (a : Bool) → not (not a) ≡ a
not_not true = refl
not_not false = refl

pub or_false : (a : Bool) → a || false ≡ a
or_false true = refl
or_false false = refl

pub both_ways : (a b : Bool) → (not a || (b || false)) && ((a || (not b || false)) && true) ≡ same_truth a b
both_ways true true = refl
both_ways true false = refl
both_ways false true = refl
both_ways false false = refl

-- some number fails exactly where not all pass
pub some_not : (z : ℤ) (n : ℕ) (test : ℤ → Bool) → some_from z n (λ y. not (test y)) ≡ not (all_from z n test)
some_not z zero test = refl
some_not z (suc n) test = ap (λ b. not (test z) || b) (some_not (z +ℤ pos 1) n test) ∙ sym (not_and (test z) (all_from (z +ℤ pos 1) n test))

pub all_not : (z : ℤ) (n : ℕ) (test : ℤ → Bool) → all_from z n (λ y. not (test y)) ≡ not (some_from z n test)
all_not z zero test = refl
all_not z (suc n) test = ap (λ b. not (test z) && b) (all_not (z +ℤ pos 1) n test) ∙ sym (not_or (test z) (some_from (z +ℤ pos 1) n test))
