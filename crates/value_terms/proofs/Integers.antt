-- What the terms of operators on integers mean.
use Rattle.std.proofs.Common.{◌≡◌, ℕ, zero, suc, Bool, true, false, not, ◌&&◌, ℤ, pos, negsuc, ◌+ℤ◌, ◌-ℤ◌, ◌*ℤ◌, neg_ℤ, Option, Some, None, refl, sym, ap, ◌∙◌, arith}
use Rattle.std.specs.Prelude.{if◌then◌else◌, int_le, int_lt, int_div, int_rem}
use Rattle.std.proofs.lemmas.Int.{ints}
use Rattle.std.proofs.lemmas.Bool.{and_parts}
use Rattle.std.proofs.Math.IntN.{*ℤ-one, one}
use Rattle.wp_base.specs.declared.kinds.Kind.{Kind}
use Rattle.wp_base.specs.declared.kinds.Kind.TheVariants as kind
use Rattle.wp_base.specs.Kinds as base
use Rattle.wp_base.specs.Kinds.{is_signed}
use Rattle.c_kinds.specs.declared.models.Machdep.{Machdep}
use Rattle.c_kinds.specs.Models.{long_bits, low, high, holds, convert}
use Rattle.c_kinds.specs.Numbers.{reduced}
use Rattle.c_kinds.specs.Conversions.{holds_all}
use Rattle.c_kinds.proofs.Converting.{conversions_keep, test_le, le_test, both_true}
use Rattle.typed_prog.specs.declared.operators.Arithmetic.{Arithmetic}
use Rattle.typed_prog.specs.declared.operators.Arithmetic.TheVariants as ar
use Rattle.typed_prog.specs.declared.operators.Comparison.{Comparison}
use Rattle.typed_prog.specs.declared.operators.Comparison.TheVariants as cmp
use Rattle.qed_terms.specs.declared.head.TermOp.TheVariants as term
use Rattle.qed_terms.specs.Meaning as m
use Rattle.qed_terms.specs.Meaning.{value}
use Rattle.qed_terms.specs.Operators.{is_zero, is_equal}
use Rattle.qed_terms.specs.Tree.{Tree}
use Rattle.c_runs.specs.Truth.{computed, compare}
use Rattle.c_runs.specs.Operators.{Val, is, wrong, Undefined, where_true, within, fits, may_divide, may_shift, may_shift_left, arithmetic}
use Rattle.c_runs.specs.Operators as run
use Rattle.c_runs.specs.Laws.{may_be_second}
use Rattle.c_runs.specs.TruthStates.{number}
use Rattle.value_terms.specs.Terms.{of_one, within_term, exact_term, arithmetic_term, comparison, narrowed, converted_term}
use Rattle.value_terms.specs.Words.{held_term, is_below_term, quotient_fits_term, shift_fits_term}
use Rattle.value_terms.proofs.Bitwise.{ands, ors, xors, reduced_is, complement_is}

-- ---- numbers

pub sum_is : (a b : ℤ) → (a +ℤ (b +ℤ pos 0)) ≡ (a +ℤ b)
sum_is a b = omega (arith, ints)

pub times_one : (b : ℤ) → (b *ℤ pos 1) ≡ b
unfolding one
times_one b = *ℤ-one b

pub from_zero : (a : ℤ) → (pos 0 -ℤ a) ≡ neg_ℤ a
from_zero a = omega (arith, ints)

pub zero_apart : (a : ℤ) → is_equal a (pos 0) ≡ is_zero a
zero_apart a = let e : (a -ℤ pos 0) ≡ a = omega (arith, ints) in ap is_zero e

pub and_true : (b : Bool) → (b && true) ≡ b
and_true true = refl
and_true false = refl

-- a check that is met
pub was_true : (b : Bool) (u : Undefined) (l : ℕ) (v x : _) → where_true b u l v ≡ is x → b ≡ true
was_true true u l v x e = refl
was_true false u l v x e = absurd cc

nonzero : (a b : ℤ) (f : ℤ → ℤ → ℤ) → not (is_zero b) ≡ true → (if is_zero b then pos 0 else f a b) ≡ f a b
nonzero a b f e = by_test (is_zero b) e
  where
    by_test : (z : Bool) → not z ≡ true → (if z then pos 0 else f a b) ≡ f a b
    by_test true e = absurd cc
    by_test false e = refl

to_bool : (a : ℤ) → (if is_equal a (pos 0) then pos 0 else pos 1) ≡ base.truth_number a
to_bool a = ap (λ z. if z then pos 0 else pos 1) (zero_apart a) ∙ by_number a
  where
    by_number : (a : ℤ) → (if is_zero a then pos 0 else pos 1) ≡ base.truth_number a
    by_number (pos zero) = refl
    by_number (pos (suc n)) = refl
    by_number (negsuc n) = refl

wider : (md : Machdep) (k l : Kind) (a : ℤ) → holds_all md k l ≡ true → holds md l a ≡ true → holds md k a ≡ true
wider md k l a e h =
    let ends = and_parts (int_le (low md k) (low md l)) _ e in
    let parts = and_parts (int_le (low md l) a) _ h in
    let p = test_le (low md k) (low md l) ends.0 in
    let q = test_le (high md l) (high md k) ends.1 in
    let x = test_le (low md l) a parts.0 in
    let y = test_le a (high md l) parts.1 in
    both_true (le_test (low md k) a (omega (arith, ints, p, x))) (le_test a (high md k) (omega (arith, ints, q, y)))

pub if_signed : (s a b : Bool) → s ≡ true → a ≡ b → a ≡ (if s then b else true)
if_signed true a b e h = h
if_signed false a b e h = absurd cc

-- in the world of terms, kinds are as wide as in the model
pub record Sized (w : m.World) (env : m.Values) (md : Machdep) : Type 0 where
  pub model : w.long_bits ≡ long_bits md

module _ {w : m.World} {env : m.Values} {md : Machdep} (sized : Sized w env md) where
  -- ---- operators

  pub exact_means : (o : Arithmetic) (t u : Tree) → value w env (exact_term o t u) ≡ computed o (value w env t) (value w env u)
  exact_means ar.Mul t u = ap (λ b. value w env t *ℤ b) (times_one (value w env u))
  exact_means ar.Div t u = refl
  exact_means ar.Rem t u = refl
  exact_means ar.Add t u = sum_is (value w env t) (value w env u)
  exact_means ar.Sub t u = refl
  exact_means ar.Shl t u = refl
  exact_means ar.Shr t u = refl
  exact_means ar.And t u = refl
  exact_means ar.Xor t u = refl
  exact_means ar.Or t u = refl

  pub wrap_means : (k : Kind) (t : Tree) → value w env (of_one (term.Wrap k) t) ≡ convert md k (value w env t)
  wrap_means k t = ap (λ b. base.convert b k (value w env t)) sized.model

  pub within_means : (k : Kind) (t : Tree) → (k ≡ kind.Bool → ⊥) → value w env (within_term k t) ≡ within md k (value w env t)
  within_means k t other = by_sign (is_signed k) refl
    where
      by_sign : (s : Bool) → is_signed k ≡ s
          → value w env (if s then t else of_one (term.Wrap k) t) ≡ (if s then value w env t else reduced md k (value w env t))
      by_sign true e = refl
      by_sign false e = wrap_means k t ∙ sym (reduced_is md k (value w env t) e other)

  pub opposite_means : (t : Tree) → value w env (of_one term.Neg t) ≡ neg_ℤ (value w env t)
  opposite_means t = from_zero (value w env t)

  -- ---- a result

  pub arithmetic_means : (k : Kind) (l : ℕ) (o : Arithmetic) (t u : Tree) → (k ≡ kind.Bool → ⊥)
      → holds md k (value w env t) ≡ true → may_be_second md k o (value w env u) ≡ true
      → run.computed md k l o (value w env t) (value w env u) ≡ is (number (arithmetic md k o (value w env t) (value w env u)))
      → value w env (arithmetic_term k o t u) ≡ arithmetic md k o (value w env t) (value w env u)
  arithmetic_means k l ar.Mul t u other p q e = within_means k (exact_term ar.Mul t u) other ∙ ap (within md k) (exact_means ar.Mul t u)
  arithmetic_means k l ar.Div t u other p q e = nonzero (value w env t) (value w env u) int_div (was_true (not (is_zero (value w env u))) run.divzero l _ _ e)
  arithmetic_means k l ar.Rem t u other p q e = nonzero (value w env t) (value w env u) int_rem (was_true (not (is_zero (value w env u))) run.divzero l _ _ e)
  arithmetic_means k l ar.Add t u other p q e = within_means k (exact_term ar.Add t u) other ∙ ap (within md k) (exact_means ar.Add t u)
  arithmetic_means k l ar.Sub t u other p q e = within_means k (exact_term ar.Sub t u) other
  arithmetic_means k l ar.Shl t u other p q e = within_means k (exact_term ar.Shl t u) other
  arithmetic_means k l ar.Shr t u other p q e = refl
  arithmetic_means k l ar.And t u other p q e = sym (ands md k other (value w env t) (value w env u) p q).same
  arithmetic_means k l ar.Xor t u other p q e = sym (xors md k other (value w env t) (value w env u) p q).same
  arithmetic_means k l ar.Or t u other p q e = sym (ors md k other (value w env t) (value w env u) p q).same

  pub complement_means : (k : Kind) (t : Tree) → (k ≡ kind.Bool → ⊥) → holds md k (value w env t) ≡ true
      → value w env (within_term k (of_one term.BitNot t)) ≡ run.complement md k (value w env t)
  complement_means k t other p = within_means k (of_one term.BitNot t) other ∙ sym (complement_is md k (value w env t) other p)

  pub comparison_means : (c : Comparison) (t u : Tree) → m.truth w env (comparison c t u) ≡ compare c (value w env t) (value w env u)
  comparison_means cmp.Less t u = refl
  comparison_means cmp.AtMost t u = refl
  comparison_means cmp.Greater t u = refl
  comparison_means cmp.AtLeast t u = refl
  comparison_means cmp.Equal t u = refl
  comparison_means cmp.NotEqual t u = refl

  -- ---- conversions

  narrowed_means : (k : Kind) (t : Tree) → value w env (narrowed k t) ≡ convert md k (value w env t)
  narrowed_means kind.Bool t = to_bool (value w env t)
  narrowed_means kind.Char t = wrap_means kind.Char t
  narrowed_means kind.SChar t = wrap_means kind.SChar t
  narrowed_means kind.UChar t = wrap_means kind.UChar t
  narrowed_means kind.Short t = wrap_means kind.Short t
  narrowed_means kind.UShort t = wrap_means kind.UShort t
  narrowed_means kind.Int t = wrap_means kind.Int t
  narrowed_means kind.UInt t = wrap_means kind.UInt t
  narrowed_means kind.Long t = wrap_means kind.Long t
  narrowed_means kind.ULong t = wrap_means kind.ULong t
  narrowed_means kind.LLong t = wrap_means kind.LLong t
  narrowed_means kind.ULLong t = wrap_means kind.ULLong t

  pub converted_means : (k l : Kind) (t : Tree) → holds md l (value w env t) ≡ true → value w env (converted_term md k l t) ≡ convert md k (value w env t)
  converted_means k l t h = by_test (holds_all md k l) refl
    where
      by_test : (b : Bool) → holds_all md k l ≡ b → value w env (if b then t else narrowed k t) ≡ convert md k (value w env t)
      by_test true e = sym ((conversions_keep md k (value w env t)).kept (wider md k l (value w env t) e h))
      by_test false e = narrowed_means k t

  -- ---- formulas of checks

  pub held_means : (k : Kind) (t : Tree) → m.truth w env (held_term md k t) ≡ holds md k (value w env t)
  held_means k t = ap (λ b. int_le (low md k) (value w env t) && b) (and_true _)

  pub below_means : (t : Tree) (n : ℕ) → m.truth w env (is_below_term t n) ≡ (int_le (pos 0) (value w env t) && int_lt (value w env t) (pos n))
  below_means t n = ap (λ b. int_le (pos 0) (value w env t) && b) (and_true _)

  general_quotient : (k : Kind) (t u : Tree) → is_signed k ≡ true
      → not (is_equal (value w env t) (low md k) && (is_equal (value w env u) (negsuc 0) && true)) ≡ may_divide md k (value w env t) (value w env u)
  general_quotient k t u s = if_signed (is_signed k) _ _ s (ap (λ b. not (is_equal (value w env t) (low md k) && b)) (and_true _))

  pub quotient_fits_means : (k : Kind) (z : Option ℤ) (t u : Tree) → is_signed k ≡ true → ((y : ℤ) → z ≡ Some y → value w env u ≡ y)
      → m.truth w env (quotient_fits_term md k z t u) ≡ may_divide md k (value w env t) (value w env u)
  quotient_fits_means k None t u s h = general_quotient k t u s
  quotient_fits_means k (Some (pos n)) t u s h = general_quotient k t u s
  quotient_fits_means k (Some (negsuc zero)) t u s h =
      if_signed (is_signed k) _ _ s (ap not (sym (and_true (is_equal (value w env t) (low md k)))
      ∙ ap (λ y. is_equal (value w env t) (low md k) && is_equal y (negsuc 0)) (sym (h (negsuc 0) refl))))
  quotient_fits_means k (Some (negsuc (suc n))) t u s h = general_quotient k t u s

  pub shift_fits_means : (k : Kind) (t u : Tree) → is_signed k ≡ true
      → m.truth w env (shift_fits_term md k t u) ≡ may_shift_left md k (value w env t) (value w env u)
  shift_fits_means k t u s = if_signed (is_signed k) _ _ s (ap (λ b. int_le (pos 0) (value w env t) && b) (and_true _))
