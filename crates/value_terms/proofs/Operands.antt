-- What the terms of a value mean: as a number, as a pointer, and as a condition.
use Rattle.std.proofs.Common.{◌≡◌, Bool, true, false, not, ◌&&◌, pos, refl, sym, ap, ◌∙◌}
use Rattle.std.specs.Prelude.{if◌then◌else◌}
use Rattle.qed_terms.specs.Meaning as m
use Rattle.qed_terms.specs.Operators.{is_zero, is_equal}
use Rattle.c_runs.specs.TruthStates.{Value, number_of, block_of, offset_of}
use Rattle.c_runs.specs.States.{is_nonzero}
use Rattle.c_runs.specs.Operators.{truth_number}
use Rattle.value_terms.specs.Readings.{Term, as_number, as_test, as_pointer, number_term, block_term, offset_term, condition}
use Rattle.value_terms.specs.Worlds.{Means}
use Rattle.value_terms.proofs.Integers.{zero_apart, and_true}

module _ (w : m.World) (env : m.Values) where
  truth_is : (b : Bool) → number_of (truth_number b) ≡ (if b then pos 1 else pos 0)
  truth_is true = refl
  truth_is false = refl

  no_block : (b : Bool) → block_of (truth_number b) ≡ pos 0
  no_block true = refl
  no_block false = refl

  no_offset : (b : Bool) → offset_of (truth_number b) ≡ pos 0
  no_offset true = refl
  no_offset false = refl

  pub number_means : (t : Term) (v : Value) → Means w env t v → number_of v ≡ m.value w env (number_term t)
  number_means (as_number t) v h = ap number_of h
  number_means (as_test f) v h = ap number_of h ∙ truth_is (m.truth w env f)
  number_means (as_pointer b o) v h = ap number_of h

  pub block_means : (t : Term) (v : Value) → Means w env t v → block_of v ≡ m.value w env (block_term t)
  block_means (as_number t) v h = ap block_of h
  block_means (as_test f) v h = ap block_of h ∙ no_block (m.truth w env f)
  block_means (as_pointer b o) v h = ap block_of h

  pub offset_means : (t : Term) (v : Value) → Means w env t v → offset_of v ≡ m.value w env (offset_term t)
  offset_means (as_number t) v h = ap offset_of h
  offset_means (as_test f) v h = ap offset_of h ∙ no_offset (m.truth w env f)
  offset_means (as_pointer b o) v h = ap offset_of h

  truth_nonzero : (b : Bool) → b ≡ is_nonzero (truth_number b)
  truth_nonzero true = refl
  truth_nonzero false = refl

  pub condition_means : (t : Term) (v : Value) → Means w env t v → m.truth w env (condition t) ≡ is_nonzero v
  condition_means (as_number t) v h = ap not (zero_apart (m.value w env t)) ∙ ap is_nonzero (sym h)
  condition_means (as_test f) v h = truth_nonzero (m.truth w env f) ∙ ap is_nonzero (sym h)
  condition_means (as_pointer b o) v h =
      (λ i. not (zero_apart (m.value w env b) i && and_true (is_equal (m.value w env o) (pos 0)) i))
      ∙ ap (λ z. not (is_zero (m.value w env b) && z)) (zero_apart (m.value w env o))
      ∙ ap is_nonzero (sym h)
