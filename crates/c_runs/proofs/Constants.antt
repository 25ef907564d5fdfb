-- The operators of a run beside those on constants.
use Rattle.std.proofs.Common.{◌≡◌, ℕ, suc, ◌-◌, ◌^◌, ℤ, pos, negsuc, ◌+ℤ◌, ◌-ℤ◌, ◌*ℤ◌, neg_ℤ, Bool, true, false, not, ◌&&◌, Option, Some, None, refl, sym, ap, ◌∙◌, arith}
use Rattle.std.specs.Prelude.{if◌then◌else◌, int_le, int_lt, int_div, int_rem}
use Rattle.std.specs.Int.Bits.{bit_and, bit_or, bit_xor}
use Rattle.std.specs.Ordering.{int_eq}
use Rattle.std.proofs.lemmas.Int.{ints}
use Rattle.wp_base.specs.declared.kinds.Kind.{Kind}
use Rattle.wp_base.specs.Kinds.{is_signed, floor_div}
use Rattle.c_kinds.specs.declared.models.Machdep.{Machdep}
use Rattle.c_kinds.specs.Models.{low, high, holds}
use Rattle.c_kinds.specs.Numbers as n
use Rattle.c_kinds.proofs.Converting.{le_test, both_true}
use Rattle.c_kinds.proofs.Sizes.{not_negative}
use Rattle.typed_prog.specs.declared.operators.Arithmetic.{Arithmetic}
use Rattle.typed_prog.specs.declared.operators.Arithmetic.TheVariants as ar
use Rattle.typed_prog.specs.declared.operators.Comparison.{Comparison}
use Rattle.typed_prog.specs.declared.operators.Comparison.TheVariants as cmp
use Rattle.c_runs.specs.TruthTold.{is_zero, is_equal}
use Rattle.c_runs.specs.TruthStates.{number}
use Rattle.c_runs.specs.Truth.{compare}
use Rattle.c_runs.specs.Operators.{Undefined, overflow, divzero, shift, Val, is, where_true, truth_number, within, fits, may_shift, may_divide, arithmetic, computed, negated, complement}
use Rattle.c_runs.specs.Laws.{on_constants, test_of_constants, number_in, may_be_second, OperatorsAreThoseOfConstants}
use Rattle.c_runs.proofs.Numbers.{equal_is, zero_is, natural_held, signed_quotient, unsigned_quotient}

-- ---- checks and options

given_where : (c : Bool) (u : Undefined) (l : ℕ) (v : Val) → number_in (where_true c u l v) ≡ (if c then number_in v else None)
given_where true u l v = refl
given_where false u l v = refl

if_true : (c : Bool) (x : Option ℤ) → c ≡ true → x ≡ (if c then x else None)
if_true true x e = refl
if_true false x e = absurd cc

-- an operator whose operands are held
both_are : (m : Machdep) (k : Kind) (a b : ℤ) (x : Option ℤ) → holds m k a ≡ true → holds m k b ≡ true → x ≡ (if n.both_held m k a b then x else None)
both_are m k a b x h g = if_true (n.both_held m k a b) x (both_true h g)

-- ---- sums and products

result_by : (signed held : Bool) (l : ℕ) (z r : ℤ)
    → number_in (where_true (if signed then held else true) overflow l (is (number (if signed then z else r))))
    ≡ (if signed then (if held then Some z else None) else Some r)
result_by true true l z r = refl
result_by true false l z r = refl
result_by false held l z r = refl

result_given : (m : Machdep) (k : Kind) (l : ℕ) (z : ℤ) → number_in (where_true (fits m k z) overflow l (is (number (within m k z)))) ≡ n.result_of m k z
unfolding n.result_of n.held
result_given m k l z = result_by (is_signed k) (holds m k z) l z (n.reduced m k z)

-- ---- quotients

divided_by : (x y : Bool) (l : ℕ) (q : ℤ)
    → number_in (where_true x divzero l (where_true y overflow l (is (number q)))) ≡ (if x && y then Some q else None)
divided_by true true l q = refl
divided_by true false l q = refl
divided_by false y l q = refl

quotient_tests : (both none none' may held : Bool) → both ≡ true → none ≡ none' → (none ≡ false → may ≡ held) → (not none && may) ≡ ((both && not none') && held)
quotient_tests true true true may held b z q = refl
quotient_tests true false false may held b z q = q refl
quotient_tests true true false may held b z q = absurd cc
quotient_tests true false true may held b z q = absurd cc
quotient_tests false none none' may held b z q = absurd cc

divides : (m : Machdep) (k : Kind) (a b : ℤ) → holds m k a ≡ true → holds m k b ≡ true → is_zero b ≡ false → may_divide m k a b ≡ holds m k (int_div a b)
divides m k a b h g some = by_sign (is_signed k) refl
  where
    by_sign : (s : Bool) → is_signed k ≡ s → (if s then not (is_equal a (low m k) && is_equal b (negsuc 0)) else true) ≡ holds m k (int_div a b)
    by_sign true s = signed_quotient m k s a b h some
    by_sign false s = unsigned_quotient m k s a b h g

quotient_given : (m : Machdep) (k : Kind) (l : ℕ) (a b q : ℤ) → holds m k a ≡ true → holds m k b ≡ true
    → number_in (where_true (not (is_zero b)) divzero l (where_true (may_divide m k a b) overflow l (is (number q))))
    ≡ (if n.has_quotient m k a b then Some q else None)
quotient_given m k l a b q h g =
    divided_by (not (is_zero b)) (may_divide m k a b) l q
    ∙ ap (λ c. if c then Some q else None)
    (quotient_tests (n.both_held m k a b) (is_zero b) (int_eq b (pos 0)) (may_divide m k a b) (holds m k (int_div a b)) (both_true h g) (zero_is b) (divides m k a b h g))

-- ---- shifts

held_first : (held x y : Bool) → held ≡ true → (x && y) ≡ ((held && x) && y)
held_first true x y e = refl
held_first false x y e = absurd cc

right_given : (m : Machdep) (k : Kind) (l : ℕ) (a b : ℤ) → holds m k a ≡ true
    → number_in (computed m k l ar.Shr a b) ≡ n.right_shift m k a b
unfolding n.right_shift
right_given m k l a (pos i) h =
    given_where (may_shift m k (pos i)) shift l _
    ∙ ap (λ c. if c then Some (floor_div a (2 ^ i)) else None) (held_first (holds m k a) (int_le (pos 0) (pos i)) (int_lt (pos i) (pos (n.bits m k))) h)
right_given m k l a (negsuc i) h =
    ap (λ c. if c then Some (floor_div a (2 ^ suc i)) else None) (held_first (holds m k a) false (int_lt (negsuc i) (pos (n.bits m k))) h)

left_by : (may natural signed below held : Bool) (l : ℕ) (z r : ℤ)
    → (signed ≡ true → natural ≡ true → below ≡ held) → (signed ≡ false → natural ≡ true)
    → number_in (where_true may shift l (where_true (if signed then natural && below else true) overflow l (is (number (if signed then z else r)))))
    ≡ (if may && natural then (if signed then (if held then Some z else None) else Some r) else None)
left_by false natural signed below held l z r s u = refl
left_by true natural false below held l z r s u = rw (u refl) refl
left_by true false true below held l z r s u = refl
left_by true true true true held l z r s u = rw (sym (s refl refl)) refl
left_by true true true false held l z r s u = rw (sym (s refl refl)) refl

natural_times : (m : Machdep) (k : Kind) (a : ℤ) (d : ℕ) → int_le (pos 0) a ≡ true → int_le (a *ℤ pos d) (high m k) ≡ holds m k (a *ℤ pos d)
natural_times m k (pos i) d e = sym (natural_held m k _)
natural_times m k (negsuc i) d e = absurd cc

left_given : (m : Machdep) (k : Kind) (l : ℕ) (a b : ℤ) → holds m k a ≡ true → number_in (computed m k l ar.Shl a b) ≡ n.left_shift m k a b
unfolding n.left_shift n.result_of n.held
left_given m k l a (pos i) h =
    left_by (may_shift m k (pos i)) (int_le (pos 0) a) (is_signed k) (int_le (a *ℤ pos (2 ^ i)) (high m k)) (holds m k (a *ℤ pos (2 ^ i))) l
    (a *ℤ pos (2 ^ i)) (n.reduced m k (a *ℤ pos (2 ^ i))) (λ s natural. natural_times m k a (2 ^ i) natural) (λ s. le_test (pos 0) a (not_negative m k a s h))
    ∙ ap (λ c. if c && int_le (pos 0) a then n.result_of m k (a *ℤ pos (2 ^ i)) else None)
    (held_first (holds m k a) (int_le (pos 0) (pos i)) (int_lt (pos i) (pos (n.bits m k))) h)
left_given m k l a (negsuc i) h =
    ap (λ c. if c && int_le (pos 0) a then n.result_of m k (a *ℤ pos (2 ^ suc i)) else None)
    (held_first (holds m k a) false (int_lt (negsuc i) (pos (n.bits m k))) h)

-- ---- all

same_arithmetic : (m : Machdep) (k : Kind) (l : ℕ) (a b : ℤ) (o : Arithmetic) → holds m k a ≡ true → may_be_second m k o b ≡ true
    → number_in (computed m k l o a b) ≡ on_constants o m k a b
unfolding n.product n.quotient n.remainder n.sum n.difference n.and_bits n.xor_bits n.or_bits
same_arithmetic m k l a b ar.Mul h g = result_given m k l (a *ℤ b) ∙ both_are m k a b _ h g
same_arithmetic m k l a b ar.Div h g = quotient_given m k l a b (int_div a b) h g
same_arithmetic m k l a b ar.Rem h g = quotient_given m k l a b (int_rem a b) h g
same_arithmetic m k l a b ar.Add h g = result_given m k l (a +ℤ b) ∙ both_are m k a b _ h g
same_arithmetic m k l a b ar.Sub h g = result_given m k l (a -ℤ b) ∙ both_are m k a b _ h g
same_arithmetic m k l a b ar.Shl h g = left_given m k l a b h
same_arithmetic m k l a b ar.Shr h g = right_given m k l a b h
same_arithmetic m k l a b ar.And h g = both_are m k a b (Some (n.with_bits m k (bit_and (n.bits_of m k a) (n.bits_of m k b)))) h g
same_arithmetic m k l a b ar.Xor h g = both_are m k a b (Some (n.with_bits m k (bit_xor (n.bits_of m k a) (n.bits_of m k b)))) h g
same_arithmetic m k l a b ar.Or h g = both_are m k a b (Some (n.with_bits m k (bit_or (n.bits_of m k a) (n.bits_of m k b)))) h g

from_zero : (a : ℤ) → neg_ℤ a ≡ (pos 0 -ℤ a)
from_zero a = omega (arith, ints)

same_opposite : (m : Machdep) (k : Kind) (l : ℕ) (a : ℤ) → holds m k a ≡ true → number_in (negated m k l a) ≡ n.negated m k a
unfolding n.negated
same_opposite m k l a h = result_given m k l (neg_ℤ a) ∙ ap (n.result_of m k) (from_zero a) ∙ if_true (holds m k a) (n.result_of m k (pos 0 -ℤ a)) h

same_complement : (m : Machdep) (k : Kind) (a : ℤ) → holds m k a ≡ true → Some (complement m k a) ≡ n.complement m k a
unfolding n.complement
same_complement m k a h = if_true (holds m k a) (Some (complement m k a)) h

truth_is : (b : Bool) → truth_number b ≡ number (if b then pos 1 else pos 0)
truth_is true = refl
truth_is false = refl

same_comparison : (a b : ℤ) (c : Comparison) → truth_number (compare c a b) ≡ number (test_of_constants c a b)
same_comparison a b cmp.Less = truth_is (int_lt a b)
same_comparison a b cmp.AtMost = truth_is (int_le a b)
same_comparison a b cmp.Greater = truth_is (int_lt b a)
same_comparison a b cmp.AtLeast = truth_is (int_le b a)
same_comparison a b cmp.Equal = truth_is (is_equal a b) ∙ ap (λ t. number (if t then pos 1 else pos 0)) (equal_is a b)
same_comparison a b cmp.NotEqual = truth_is (not (is_equal a b)) ∙ ap (λ t. number (if not t then pos 1 else pos 0)) (equal_is a b)

pub operators_are_those_of_constants : OperatorsAreThoseOfConstants
operators_are_those_of_constants m k l a b = record {
  arithmetic = same_arithmetic m k l a b;
  opposite = same_opposite m k l a;
  complement = same_complement m k a;
  comparison = same_comparison a b;
}
