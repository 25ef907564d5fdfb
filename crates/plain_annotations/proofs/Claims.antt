-- Annotations of a function over plain integers are what its word asks for.
use Rattle.std.proofs.Common.{◌≡◌, ℕ, Bool, true, false, List, [], refl, sym, ap, ◌∙◌, subst}
use Rattle.std.specs.Prelude.{Option, Some, None}
use Rattle.std.specs.Option.{is_some}
use Rattle.std.proofs.lemmas.Bool.{false≢true}
use Rattle.wp_base.specs.declared.kinds.CellKind.{CellKind}
use Rattle.typed_prog.specs.declared.operators.Variable.{Variable}
use Rattle.typed_prog.specs.declared.operators.Variable.TheVariants as variables
use Rattle.acsl_trees.specs.Tree as acsl
use Rattle.c_runs.specs.TruthStates.{is_negative, number}
use Rattle.c_runs.specs.TruthStates as labelled
use Rattle.qed_terms.specs.Meaning as sense
use Rattle.c_runs.specs.Program.{Facts}
use Rattle.plain_states.specs.Slots.{State, at, result_slot}
use Rattle.program_steps.specs.Told.{Shape, sizes}
use Rattle.acsl_encode.specs.Readings.{Terms, integer, nothing}
use Rattle.acsl_encode.specs.Meaning.{SeenStands, Stands, Means, IsOfKind}
use Rattle.acsl_encode.specs.WellFormed.{TermsFit}
use Rattle.acsl_encode.specs.Laws.{TermsUnmarked}
use Rattle.walk_steps.specs.State.{at_or}
use Rattle.program_steps.specs.Leaves.{leaf, leaves_of}
use Rattle.program_steps.specs.Terms.{Texts, seen_at, common_of, body_reading, return_reading, kind_given}
use Rattle.program_steps.specs.Standing.{SeenAs, SeenBy}
use Rattle.program_steps.specs.Placed.{InSetting}
use Rattle.program_steps.specs.Typed.{ClaimFits, MeasureFits}
use Rattle.program_steps.specs.Functions.{SeenReturn, ReturnFits}
use Rattle.program_steps.proofs.Listing.{leaf_value}
use Rattle.program_steps.proofs.Starting.{leaf_closed}
use Rattle.plain_annotations.specs.Views.{SeenServes}
use Rattle.plain_annotations.specs.Places.{place_over, TextsFit}
use Rattle.plain_annotations.specs.Laws.{with_result, IsOver, Fits}
use Rattle.plain_annotations.specs.Claims.{is_body_claim, is_promise, ClaimsFit, PromisesFit}
use Rattle.plain_annotations.proofs.Naming.{leaf_fits, leaf_unmarked, binder_fits, binder_marked, all_lack}
use Rattle.plain_annotations.proofs.Slots.{may_call, integers, closed_slots, seen_fits, seen_unmarked, slots_stand}
use Rattle.plain_annotations.proofs.Fits.{annotations_fit}

module _ (m : sense.World) (p : Facts) (s : Shape) (texts : Texts) (setting : InSetting m p s) (fit : TextsFit m p s texts) where
  -- ---- readings serve

  serves : (result : Bool) (g l : ℕ) → SeenServes (place_over p texts s.variables result) p.model texts.called (seen_at p s g l)
  serves result g l = record { variables = integers p s g l; calls = λ f n e. may_call p s g (seen_at p s g l) (λ x. refl) (texts.called f) n e }

  body_over : (a : acsl.Tree) (here entry loop_entry : ℕ)
      → IsOver (texts.binders a) (place_over p texts s.variables false) nothing (body_reading p s texts here entry loop_entry a)
  body_over a h e g = record {
    serves = record { here = serves false h h; pre = serves false e e; post = serves false h h; loop_entry = serves false g g; result = λ t. absurd (false≢true t) };
    closed = record {
      here = closed_slots p s h h;
      pre = closed_slots p s e e;
      post = closed_slots p s h h;
      loop_entry = closed_slots p s g g;
      result = tt;
      binders = λ n. binder_marked (texts.binders a) n;
    };
    fits = record {
      here = seen_fits p s h h;
      pre = seen_fits p s e e;
      post = seen_fits p s h h;
      loop_entry = seen_fits p s g g;
      result = tt;
      binders = λ n. binder_fits (texts.binders a) n (fit.binders a);
      called = fit.called;
    };
    unbound = record {
      here = seen_unmarked p s h h;
      pre = seen_unmarked p s e e;
      post = seen_unmarked p s h h;
      loop_entry = seen_unmarked p s g g;
      result = tt;
      spelled = all_lack (texts.binders a) (fit.binders a);
      binders = λ n. refl;
    };
    result = λ t. refl;
    given_fits = tt;
    given_unmarked = tt;
  }

  -- ---- they stand for states

  state_stands : (a : acsl.Tree) (sts : List State) (q : labelled.State) (g l : ℕ) → SeenAs p s q (at_or [] sts g) (at_or [] sts l)
      → SeenStands m (common_of p s texts a) (leaves_of sts) (seen_at p s g l) q
  state_stands a sts q g l seen = record {
    variables = slots_stand p s m (common_of p s texts a) refl (λ x. refl) sts q g l seen;
    table = tt;
    numbers = λ k. tt;
    pointers = tt;
  }

  hides : (a : acsl.Tree) (x : Variable) → is_negative ((common_of p s texts a).hidden x) ≡ true
  hides a (variables.Global x) = refl
  hides a (variables.Local x) = refl

  body_stands : (a : acsl.Tree) (w : labelled.World) (sts : List State) (here entry loop_entry : ℕ) → SeenBy p s w sts here entry loop_entry
      → Stands m (with_result nothing (body_reading p s texts here entry loop_entry a)) (leaves_of sts) w
  body_stands a w sts h e g seen = record {
    here = state_stands a sts w.here h h seen.here_is;
    pre = state_stands a sts w.pre e e seen.pre_is;
    post = state_stands a sts w.post h h seen.post_is;
    loop_entry = state_stands a sts w.loop_entry g g seen.loop_entry_is;
    result = tt;
    model = seen.model;
    structs = seen.structs;
    hidden = hides a;
    homes = λ l n. tt;
    long_bits = setting.model;
  }

  -- ---- claims and measures in the body

  body_fits : (a : acsl.Tree) → is_body_claim p texts s a ≡ true → (here entry loop_entry : ℕ)
      → Fits m nothing (body_reading p s texts here entry loop_entry a) p.definitions a
  body_fits a e h n g =
      annotations_fit m (texts.binders a) (place_over p texts s.variables false) nothing (body_reading p s texts h n g a) p.definitions a (body_over a h n g) (fit.calls a) e

  claim_fits : (a : acsl.Tree) → is_body_claim p texts s a ≡ true → (here entry loop_entry : ℕ) → ClaimFits m p s texts a here entry loop_entry
  claim_fits a e h n g =
      let f = (body_fits a e h n g).as_formula in
      record { formula = f.formula; is = f.is; closed = f.closed; means = λ w sts seen. f.means (leaves_of sts) w (body_stands a w sts h n g seen) }

  measure_fits : (a : acsl.Tree) → is_body_claim p texts s a ≡ true → (here entry loop_entry : ℕ) → MeasureFits m p s texts a here entry loop_entry
  measure_fits a e h n g =
      let f = (body_fits a e h n g).as_number in
      record { term = f.term; is = f.is; closed = f.closed; means = λ w sts seen. f.means (leaves_of sts) w (body_stands a w sts h n g seen) }

  -- ---- promises

  abbrev result_for : Option CellKind → Terms
  result_for (Some k) = integer (kind_given (Some k)) (leaf 0 (result_slot (sizes p s)))
  result_for None = nothing

  result_fits : (o : Option CellKind) → TermsFit (result_for o)
  result_fits (Some k) = leaf_fits 0 (result_slot (sizes p s))
  result_fits None = tt

  result_unmarked : (o : Option CellKind) → TermsUnmarked (result_for o)
  result_unmarked (Some k) = leaf_unmarked 0 (result_slot (sizes p s))
  result_unmarked None = tt

  result_is : (o : Option CellKind) → is_some o ≡ true → integer (kind_given o) (leaf 0 (result_slot (sizes p s))) ≡ result_for o
  result_is (Some k) e = refl
  result_is None e = absurd (false≢true e)

  return_over : (a : acsl.Tree)
      → IsOver (texts.binders a) (place_over p texts s.variables (is_some s.result)) (result_for s.result)
      (return_reading p s texts 1 a)
  return_over a = record {
    serves = record {
      here = serves (is_some s.result) 0 1;
      pre = serves (is_some s.result) 1 1;
      post = serves (is_some s.result) 0 1;
      loop_entry = serves (is_some s.result) 1 1;
      result = λ t. tt;
    };
    closed = record {
      here = closed_slots p s 0 1;
      pre = closed_slots p s 1 1;
      post = closed_slots p s 0 1;
      loop_entry = closed_slots p s 1 1;
      result = leaf_closed 0 (result_slot (sizes p s));
      binders = λ n. binder_marked (texts.binders a) n;
    };
    fits = record {
      here = seen_fits p s 0 1;
      pre = seen_fits p s 1 1;
      post = seen_fits p s 0 1;
      loop_entry = seen_fits p s 1 1;
      result = leaf_fits 0 (result_slot (sizes p s));
      binders = λ n. binder_fits (texts.binders a) n (fit.binders a);
      called = fit.called;
    };
    unbound = record {
      here = seen_unmarked p s 0 1;
      pre = seen_unmarked p s 1 1;
      post = seen_unmarked p s 0 1;
      loop_entry = seen_unmarked p s 1 1;
      result = leaf_unmarked 0 (result_slot (sizes p s));
      spelled = all_lack (texts.binders a) (fit.binders a);
      binders = λ n. refl;
    };
    result = result_is s.result;
    given_fits = result_fits s.result;
    given_unmarked = result_unmarked s.result;
  }

  result_stands : (a : acsl.Tree) (w : labelled.World) (sts : List State) → SeenReturn p s w sts
      → Means m (common_of p s texts a) (leaves_of sts) (result_for s.result) w.result
  result_stands a w sts seen = by s.result seen.result seen.result_fits
    where
      by : (o : Option CellKind) → ((k : CellKind) → o ≡ Some k → w.result ≡ number (at (at_or [] sts 0) (result_slot (sizes p s))))
          → IsOfKind p.model (kind_given o) (at (at_or [] sts 0) (result_slot (sizes p s))) → Means m (common_of p s texts a) (leaves_of sts) (result_for o) w.result
      by (Some k) h fits =
          let is = sym (leaf_value m sts 0 (result_slot (sizes p s))) in
          (h k refl ∙ ap number is, subst (IsOfKind p.model (kind_given (Some k))) is fits)
      by None h fits = tt

  return_stands : (a : acsl.Tree) (w : labelled.World) (sts : List State) → SeenReturn p s w sts
      → Stands m (with_result (result_for s.result) (return_reading p s texts 1 a)) (leaves_of sts) w
  return_stands a w sts seen = record {
    here = state_stands a sts w.here 0 1 seen.here_is;
    pre = state_stands a sts w.pre 1 1 seen.pre_is;
    post = state_stands a sts w.post 0 1 seen.post_is;
    loop_entry = state_stands a sts w.loop_entry 1 1 seen.loop_entry_is;
    result = result_stands a w sts seen;
    model = seen.model;
    structs = seen.structs;
    hidden = hides a;
    homes = λ l n. tt;
    long_bits = setting.model;
  }

  return_fits : (a : acsl.Tree) → is_promise p texts s a ≡ true → ReturnFits m p s texts a
  return_fits a e =
      let f = (annotations_fit m (texts.binders a) (place_over p texts s.variables (is_some s.result)) (result_for s.result) (return_reading p s texts 1 a) p.definitions a
      (return_over a) (fit.calls a) e).as_formula in
      record { formula = f.formula; is = f.is; closed = f.closed; means = λ w sts seen. f.means (leaves_of sts) w (return_stands a w sts seen) }

pub claims_fit : ClaimsFit
claims_fit m p s texts setting fit a e = record { claim = claim_fits m p s texts setting fit a e; measure = measure_fits m p s texts setting fit a e }

pub promises_fit : PromisesFit
promises_fit m p s texts setting fit a e = return_fits m p s texts setting fit a e
