-- Operators on terms stand for the operators on what these mean.
use Rattle.std.proofs.Common.{◌≡◌, ℕ, zero, suc, ◌==◌, Bool, true, false, not, ◌&&◌, ◌||◌, cond, refl, sym, ap, ◌∙◌, arith}
use Rattle.std.specs.Prelude.{ℤ, pos, negsuc, ◌+ℤ◌, ◌-ℤ◌, ◌*ℤ◌, int_le, if◌then◌else◌}
use Rattle.std.proofs.lemmas.Bool.{and_parts, eqb-true}
use Rattle.std.proofs.lemmas.Int.{ints}
use Rattle.wp_base.specs.declared.kinds.Kind.{Kind}
use Rattle.wp_base.specs.declared.kinds.CellKind.{CellKind}
use Rattle.wp_base.specs.Kinds as base
use Rattle.wp_base.specs.Blocks.{is_cell}
use Rattle.qed_terms.specs.declared.head.TermOp.TheVariants as op
use Rattle.c_kinds.specs.declared.models.Machdep.{Machdep}
use Rattle.c_kinds.specs.Models.{low, high, holds}
use Rattle.c_kinds.specs.Conversions.{holds_all}
use Rattle.c_kinds.proofs.Converting.{le_test, test_le, both_true}
use Rattle.typed_prog.specs.declared.operators.Arithmetic.{Arithmetic}
use Rattle.typed_prog.specs.declared.operators.Arithmetic.TheVariants as ar
use Rattle.typed_prog.specs.declared.operators.Comparison.{Comparison}
use Rattle.typed_prog.specs.declared.operators.Comparison.TheVariants as cmp
use Rattle.c_runs.specs.TruthStates as state
use Rattle.c_runs.specs.TruthStates.{Value, State, World, number_of, block_of, offset_of, is_true, is_negative, may_read, of_kind, state_at}
use Rattle.c_runs.specs.Truth as truth
use Rattle.c_runs.specs.Truth.{computed, compare, compare_pointers, value_at, moved_by}
use Rattle.qed_terms.specs.Operators.{is_zero, is_equal, quotient}
use Rattle.qed_terms.specs.Tree.{Tree as Term, num}
use Rattle.qed_terms.specs.Meaning.{Values, World as Logic}
use Rattle.acsl_encode.specs.Readings.{Pointer, Terms, address, Common}
use Rattle.acsl_encode.specs.Encode as encode
use Rattle.acsl_encode.specs.Encode.{comparison, pointer_comparison, times, further, difference, wrapped, truth_term, op_of, op_one, op_two, as_integer}
use Rattle.acsl_encode.specs.Encode.{as_pointer, as_formula}
use Rattle.acsl_encode.specs.Meaning.{number_in, is_so_in, HasAddress, Means}
use Rattle.acsl_encode.proofs.Numbers.{sum_two, product_two, back_is, one_times, none_more, by_one}
use Rattle.acsl_encode.proofs.Operands.{IsNumber, IsPointer}

-- ---- truths

pub chosen_truth : (c f g : Bool) → cond c (state.truth f) (state.truth g) ≡ state.truth ((not c || f) && ((not (not c) || g) && true))
chosen_truth true true g = refl
chosen_truth true false g = refl
chosen_truth false f true = refl
chosen_truth false f false = refl

pub chosen_number : (c : Bool) (a b : ℤ) → cond c (state.number a) (state.number b) ≡ state.number (cond c a b)
chosen_number true a b = refl
chosen_number false a b = refl

pub chosen_pointer : (c : Bool) (b o b' o' : ℤ) → cond c (state.pointer b o) (state.pointer b' o') ≡ state.pointer (cond c b b') (cond c o o')
chosen_pointer true b o b' o' = refl
chosen_pointer false b o b' o' = refl

pub chosen_address : (c : Bool) (b b' : ℤ) → HasAddress b → HasAddress b' → HasAddress (cond c b b')
chosen_address true b b' h k = h
chosen_address false b b' h k = k

pub and_true : (b : Bool) → b ≡ (b && true)
and_true true = refl
and_true false = refl

pub or_false : (b : Bool) → b ≡ (b || false)
or_false true = refl
or_false false = refl

-- ---- kinds

pub truth_number_is : (z : ℤ) → cond (is_zero z) (pos 0) (pos 1) ≡ base.truth_number z
truth_number_is (pos zero) = refl
truth_number_is (pos (suc n)) = refl
truth_number_is (negsuc n) = refl

le_through : (a b c : ℤ) → int_le a b ≡ true → int_le b c ≡ true → int_le a c ≡ true
le_through a b c h k = le_test a c (omega (arith, ints, test_le a b h, test_le b c k))

pub held_by_wider : (m : Machdep) (k l : Kind) (z : ℤ) → holds_all m k l ≡ true → holds m l z ≡ true → holds m k z ≡ true
held_by_wider m k l z wide h =
    let p = and_parts (int_le (low m k) (low m l)) (int_le (high m l) (high m k)) wide in
    let e = and_parts (int_le (low m l) z) (int_le z (high m l)) h in
    both_true (le_through (low m k) (low m l) z p.0 e.0) (le_through z (high m l) (high m k) e.1 p.1)

-- ---- cells without an address

pub hidden_held : (k : CellKind) (st : State) (b o : ℤ) → is_negative b ≡ true → state.held k st b o ≡ of_kind k (st.cells b o)
hidden_held k st b o h = ap (λ n. cond (n || is_cell k st.blocks b o) (of_kind k (st.cells b o)) (state.nothing_of k)) h

module _ (q : Logic) (r : Common) (env : Values) where
  abbrev M : Terms → Value → Type 0
  M = Means q r env

  abbrev N : Term → ℤ
  N = number_in q env

  abbrev F : Term → Bool
  F = is_so_in q env

  -- ---- operators

  pub comparison_is : (c : Comparison) (t u : Term) → compare c (N t) (N u) ≡ F (comparison c t u)
  comparison_is cmp.Less t u = refl
  comparison_is cmp.AtMost t u = refl
  comparison_is cmp.Greater t u = refl
  comparison_is cmp.AtLeast t u = refl
  comparison_is cmp.Equal t u = refl
  comparison_is cmp.NotEqual t u = refl

  abbrev pointed : Pointer → Value
  pointed p = state.pointer (N p.block) (N p.offset)

  pub pointers_is : (c : Comparison) (p p' : Pointer) → compare_pointers c (pointed p) (pointed p') ≡ F (pointer_comparison c p p')
  pointers_is cmp.Less p p' = refl
  pointers_is cmp.AtMost p p' = refl
  pointers_is cmp.Greater p p' = refl
  pointers_is cmp.AtLeast p p' = refl
  pointers_is cmp.Equal p p' = ap (λ b. is_equal (N p.block) (N p'.block) && b) (and_true (is_equal (N p.offset) (N p'.offset)))
  pointers_is cmp.NotEqual p p' = ap (λ b. not (is_equal (N p.block) (N p'.block) && b)) (and_true (is_equal (N p.offset) (N p'.offset)))

  pub computed_is : (o : Arithmetic) (t u : Term) → computed o (N t) (N u) ≡ N (op_two (op_of o) t u)
  computed_is ar.Mul t u = sym (product_two (N t) (N u))
  computed_is ar.Div t u = refl
  computed_is ar.Rem t u = refl
  computed_is ar.Add t u = sym (sum_two (N t) (N u))
  computed_is ar.Sub t u = refl
  computed_is ar.Shl t u = refl
  computed_is ar.Shr t u = refl
  computed_is ar.And t u = refl
  computed_is ar.Xor t u = refl
  computed_is ar.Or t u = refl

  pub times_is : (n : ℕ) (t : Term) → pos n *ℤ N t ≡ N (times n t)
  times_is n t = by (n == 1) refl
    where
      by : (b : Bool) → (n == 1) ≡ b → pos n *ℤ N t ≡ N (if b then t else op_two op.Mul (num (pos n)) t)
      by true e = ap (λ k. pos k *ℤ N t) (eqb-true n 1 e) ∙ one_times (N t)
      by false e = sym (product_two (pos n) (N t))

  pub further_is : (n : ℕ) (o : Term) → N o +ℤ pos n ≡ N (further n o)
  further_is zero o = none_more (N o)
  further_is (suc n) o = sym (sum_two (N o) (pos (suc n)))

  pub difference_is : (n : ℕ) (p p' : Pointer) → quotient (N p.offset -ℤ N p'.offset) (pos n) ≡ N (difference n p p')
  difference_is n p p' = by (n == 1) refl
    where
      by : (b : Bool) → (n == 1) ≡ b
          → quotient (N p.offset -ℤ N p'.offset) (pos n) ≡ N (if b then op_two op.Sub p.offset p'.offset else op_two op.Div (op_two op.Sub p.offset p'.offset)
          (num (pos n)))
      by true e = ap (λ k. quotient (N p.offset -ℤ N p'.offset) (pos k)) (eqb-true n 1 e) ∙ by_one (N p.offset -ℤ N p'.offset)
      by false e = refl

  -- ---- pointers

  pub moved_means : (minus : Bool) (n : ℕ) (v w : Value) (p : Pointer) (t : Term) → IsPointer q r env v p → IsNumber q r env w t
      → M (encode.moved minus n p t) (moved_by minus n v w)
  moved_means true n v w p t h k = (
    (λ i. moved_by true n (h.0 i) (k i)) ∙ ap (λ o. state.pointer (N p.block) o)
        (back_is (N p.offset) (pos n *ℤ N t) ∙ ap (λ z. N p.offset -ℤ z) (times_is n t)),
    h.1,
  )
  moved_means false n v w p t h k = (
    (λ i. moved_by false n (h.0 i) (k i)) ∙ ap (λ o. state.pointer (N p.block) o)
        (ap (λ z. N p.offset +ℤ z) (times_is n t) ∙ sym (sum_two (N p.offset) (N (times n t)))),
    h.1,
  )

  pub field_means : (n : ℕ) (v : Value) (p : Pointer) → IsPointer q r env v p → M (address p.block (further n p.offset)) (truth.moved v (pos n))
  field_means n v p h = (ap (λ v. truth.moved v (pos n)) h.0 ∙ ap (λ o. state.pointer (N p.block) o) (further_is n p.offset), h.1)
