-- Quantifiers over the numbers between two ends.
use Rattle.std.proofs.Common.{◌≡◌, ℕ, zero, suc, Bool, true, false, ◌&&◌, ◌||◌, List, refl, sym, ap, ◌∙◌, arith}
use Rattle.std.specs.Prelude.{ℤ, pos, negsuc, ◌+ℤ◌, ◌-ℤ◌, ◌≤ℤ◌, Option, Some, None}
use Rattle.std.proofs.lemmas.Int.{ints}
use Rattle.wp_base.specs.Blocks.{to_nat}
use Rattle.c_kinds.specs.declared.models.Machdep.{Machdep}
use Rattle.c_kinds.proofs.Converting.{le_test, both_true}
use Rattle.c_kinds.specs.Models.{low, high}
use Rattle.acsl_trees.specs.declared.heads.Range.{Range}
use Rattle.acsl_trees.specs.declared.heads.Range.TheVariants as range
use Rattle.c_runs.specs.TruthStates as state
use Rattle.c_runs.specs.TruthStates.{Value, number_of, every_between, some_between}
use Rattle.c_runs.specs.Truth.{least, greatest, beyond, short_of, value_at}
use Rattle.qed_terms.specs.declared.head.Head.TheVariants as th
use Rattle.qed_terms.specs.Tree.{Tree as Term}
use Rattle.qed_terms.specs.Meaning.{Values, World as Logic, with_int, all_from, some_from}
use Rattle.acsl_encode.specs.Readings.{Terms, Common}
use Rattle.acsl_encode.specs.Encode.{Ends, ends_of, low_end, high_end, kind_of, quantified, as_integer, terms_at, on_two}
use Rattle.acsl_encode.specs.Meaning.{Holds, number_in, is_so_in, Means, IsOfKind}
use Rattle.acsl_encode.proofs.Operands.{IsNumber, as_number, AllMean, kid_means}
use Rattle.acsl_encode.proofs.Numbers.{sum_two}

-- ---- tests that agree where they are asked

abbrev AgreeFrom : ℤ → ℕ → (ℤ → Bool) → (ℤ → Bool) → Type 0
AgreeFrom low n p p' = (z : ℤ) → low ≤ℤ z → z ≤ℤ ((low +ℤ pos n) -ℤ pos 1) → p z ≡ p' z

agree_next : (low : ℤ) (n : ℕ) (p p' : ℤ → Bool) → AgreeFrom low (suc n) p p' → AgreeFrom (low +ℤ pos 1) n p p'
agree_next low n p p' h z le lt = h z (omega (arith, ints, le)) (omega (arith, ints, lt))

agree_here : (low : ℤ) (n : ℕ) (p p' : ℤ → Bool) → AgreeFrom low (suc n) p p' → p low ≡ p' low
agree_here low n p p' h = h low (omega (arith, ints)) (omega (arith, ints))

all_same : (low : ℤ) (n : ℕ) (p p' : ℤ → Bool) → AgreeFrom low n p p' → all_from low n p ≡ all_from low n p'
all_same low zero p p' h = refl
all_same low (suc n) p p' h =
    let a = agree_here low n p p' h in let b = all_same (low +ℤ pos 1) n p p' (agree_next low n p p' h) in λ i. a i && b i

some_same : (low : ℤ) (n : ℕ) (p p' : ℤ → Bool) → AgreeFrom low n p p' → some_from low n p ≡ some_from low n p'
some_same low zero p p' h = refl
some_same low (suc n) p p' h =
    let a = agree_here low n p p' h in let b = some_same (low +ℤ pos 1) n p p' (agree_next low n p p' h) in λ i. a i || b i

-- the last of so many numbers from the low end on
last_is : (low high z : ℤ) → low ≤ℤ z → z ≤ℤ ((low +ℤ pos (to_nat ((high -ℤ low) +ℤ pos 1))) -ℤ pos 1) → z ≤ℤ high
last_is low high z le lt = by ((high -ℤ low) +ℤ pos 1) refl lt
  where
    by : (y : ℤ) → (high -ℤ low) +ℤ pos 1 ≡ y → z ≤ℤ ((low +ℤ pos (to_nat y)) -ℤ pos 1) → z ≤ℤ high
    by (pos n) e lt = omega (arith, ints, e, lt)
    by (negsuc n) e lt = omega (arith, ints, e, lt, le)

-- ---- ends

module _ (q : Logic) (r : Common) (env : Values) where
  -- from one number to another one
  abbrev pub Reach : (low high : ℤ) → Ends → Type 0
  Reach low high e = (number_in q env e.low ≡ low) × (number_in q env e.high ≡ high +ℤ pos 1)

  low_is : (out : Bool) (t : Term) → number_in q env (low_end out t) ≡ beyond out (number_in q env t)
  low_is true t = sum_two (number_in q env t) (pos 1)
  low_is false t = refl

  high_is : (out : Bool) (t : Term) → number_in q env (high_end out t) ≡ short_of out (number_in q env t) +ℤ pos 1
  high_is true t = omega (arith, ints)
  high_is false t = sum_two (number_in q env t) (pos 1)

  both_ends : (low_out high_out : Bool) (v w : Value) (o o' : Option Term) → Holds (IsNumber q r env v) o → Holds (IsNumber q r env w) o'
      → Holds (Reach (beyond low_out (number_of v)) (short_of high_out (number_of w)))
      (on_two (λ t u. record { low = low_end low_out t; high = high_end high_out u }) o o')
  both_ends p p' v w (Some t) (Some u) h k =
      (low_is p t ∙ sym (ap (λ v. beyond p (number_of v)) h), high_is p' u ∙ sym (ap (λ v. short_of p' (number_of v) +ℤ pos 1) k))
  both_ends p p' v w (Some t) None h k = tt
  both_ends p p' v w None o' h k = tt

  pub ends_mean : (g : Range) (xs : List Terms) (vs : List Value) → AllMean q r env xs vs
      → Holds (Reach (least r.model g vs) (greatest r.model g vs)) (ends_of r.model g xs)
  ends_mean (range.Between p p' place) xs vs h =
      both_ends p p' (value_at vs 0) (value_at vs 1) (as_integer (terms_at xs 0)) (as_integer (terms_at xs 1))
      (as_number q r env (terms_at xs 0) (value_at vs 0) (kid_means q r env xs vs 0 h))
      (as_number q r env (terms_at xs 1) (value_at vs 1) (kid_means q r env xs vs 1 h))
  ends_mean (range.Kind k place) xs vs h = (refl, refl)

  -- ---- quantifiers

  -- what the body comes to for each number between the ends
  abbrev pub Body : List ℕ → (low high : ℤ) → (ℤ → Bool) → Option Term → Type 0
  Body x low high test o = (z : ℤ) → low ≤ℤ z → z ≤ℤ high → Holds (λ f. test z ≡ is_so_in q (with_int env x z) f) o

  length_is : (low high : ℤ) (e : Ends) → Reach low high e → number_in q env e.high -ℤ number_in q env e.low ≡ (high -ℤ low) +ℤ pos 1
  length_is low high e h = (λ i. h.1 i -ℤ h.0 i) ∙ omega (arith, ints)

  pub every_means : (x : List ℕ) (low high : ℤ) (test : ℤ → Bool) (o : Option Ends) (o' : Option Term) → Holds (Reach low high) o → Body x low high test o'
      → Means q r env (quantified (th.Forall x) o o') (state.truth (every_between low high test))
  every_means x low high test (Some e) (Some f) h body =
      let n = length_is low high e h in
      ap state.truth (
      all_same low (to_nat ((high -ℤ low) +ℤ pos 1)) test (λ z. is_so_in q (with_int env x z) f) (λ z le lt. body z le (last_is low high z le lt))
      ∙ (λ i. all_from (sym h.0 i) (to_nat (sym n i)) (λ z. is_so_in q (with_int env x z) f))
      )
  every_means x low high test (Some e) None h body = tt
  every_means x low high test None o' h body = tt

  pub some_means : (x : List ℕ) (low high : ℤ) (test : ℤ → Bool) (o : Option Ends) (o' : Option Term) → Holds (Reach low high) o → Body x low high test o'
      → Means q r env (quantified (th.Exists x) o o') (state.truth (some_between low high test))
  some_means x low high test (Some e) (Some f) h body =
      let n = length_is low high e h in
      ap state.truth (
      some_same low (to_nat ((high -ℤ low) +ℤ pos 1)) test (λ z. is_so_in q (with_int env x z) f) (λ z le lt. body z le (last_is low high z le lt))
      ∙ (λ i. some_from (sym h.0 i) (to_nat (sym n i)) (λ z. is_so_in q (with_int env x z) f))
      )
  some_means x low high test (Some e) None h body = tt
  some_means x low high test None o' h body = tt

-- a number between the ends of a kind is one of it
pub inside_kind : (m : Machdep) (g : Range) (vs : List Value) (z : ℤ) → least m g vs ≤ℤ z → z ≤ℤ greatest m g vs → IsOfKind m (kind_of g) z
inside_kind m (range.Between p p' place) vs z le lt = tt
inside_kind m (range.Kind k place) vs z le lt = both_true (le_test (low m k) z le) (le_test z (high m k) lt)
