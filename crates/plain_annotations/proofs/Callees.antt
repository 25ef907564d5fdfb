-- Contracts of functions that are called have closed formulas and terms, which mean them.
use Rattle.std.proofs.Common.{◌≡◌, ℕ, Bool, true, List, [], refl, sym, ap, ◌∙◌, subst}
use Rattle.std.specs.Prelude.{Option, Some, None, slice_get}
use Rattle.std.specs.Option.{is_some}
use Rattle.std.proofs.lemmas.Bool.{false≢true}
use Rattle.typed_prog.specs.declared.operators.Variable.{Variable}
use Rattle.typed_prog.specs.declared.operators.Variable.TheVariants as variables
use Rattle.acsl_trees.specs.Tree as acsl
use Rattle.c_runs.specs.TruthStates.{is_negative}
use Rattle.c_runs.specs.TruthStates as labelled
use Rattle.qed_terms.specs.Tree.{Tree}
use Rattle.qed_terms.specs.Meaning as sense
use Rattle.qed_terms.specs.Meaning.{value}
use Rattle.c_runs.specs.Program as program
use Rattle.c_runs.specs.Program.{Facts}
use Rattle.plain_states.specs.Slots.{State}
use Rattle.plain_states.specs.Scopes.{kind_of}
use Rattle.program_steps.specs.Told.{Shape}
use Rattle.acsl_encode.specs.Readings.{Terms, Slot, whole, absent, Seen}
use Rattle.acsl_encode.specs.Meaning.{Holds, SlotStands, SeenStands, Stands}
use Rattle.acsl_encode.specs.WellFormed.{SlotFits, SeenFits}
use Rattle.acsl_encode.specs.Laws.{SlotUnmarked, SeenUnmarked}
use Rattle.walk_steps.specs.State.{at_or}
use Rattle.program_steps.specs.Leaves.{leaves_of}
use Rattle.program_steps.specs.Terms.{Texts, global_slot, common_of}
use Rattle.program_steps.specs.Placed.{InSetting}
use Rattle.plain_annotations.specs.Views.{SlotIsInteger, SlotIsClosed, SeenServes}
use Rattle.plain_annotations.specs.Places.{place_over, is_known, TextsFit}
use Rattle.plain_annotations.specs.Laws.{with_result, IsOver}
use Rattle.plain_annotations.specs.Callees.{IsOpen, IsView, Sees, reading_over, IsResult, SeesCall, CalleesFit}
use Rattle.plain_annotations.proofs.Naming.{binder_fits, binder_marked, all_lack}
use Rattle.plain_annotations.proofs.Slots.{may_call, global_integer, global_closed, global_fits, global_unmarked, global_stands}
use Rattle.plain_annotations.proofs.Fits.{annotations_fit}

module _ (m : sense.World) (p : Facts) (s : Shape) (own : List program.Variable) (texts : Texts) (setting : InSetting m p s) (fit : TextsFit m p s texts)
    (args : ℕ → Tree) (opens : (x : ℕ) → IsOpen (args x)) where
  -- ---- one state

  module _ (l : ℕ) (seen : Seen) (view : IsView p s own l args seen) where
    -- what is so of each slot
    each : (f : Variable → Slot → Type 0) → ((x : ℕ) → f (variables.Global x) (global_slot p s l x (slice_get p.globals x)))
        → ((x : ℕ) (v : program.Variable) → slice_get own x ≡ Some v → f (variables.Local x) (whole (kind_of v) (args x)))
        → ((x : ℕ) → slice_get own x ≡ None → f (variables.Local x) absent) → (x : Variable) → f x (seen.variable x)
    each f of_file of_own of_none (variables.Global x) = subst (f (variables.Global x)) (sym (view.globals x)) (of_file x)
    each f of_file of_own of_none (variables.Local x) = by (slice_get own x) refl
      where
        by : (o : Option program.Variable) → slice_get own x ≡ o → f (variables.Local x) (seen.variable (variables.Local x))
        by (Some v) e = subst (f (variables.Local x)) (sym (view.params x v e)) (of_own x v e)
        by None e = subst (f (variables.Local x)) (sym (view.others x e)) (of_none x e)

    serves : (named : Bool) → SeenServes (place_over p texts own named) p.model texts.called seen
    serves named = record {
      variables = each (λ x o. is_known p own x ≡ true → SlotIsInteger o) (λ x e. global_integer p s l x (slice_get p.globals x) e) (λ x v e k. tt)
          (λ x e k. absurd (false≢true (sym (ap is_some e) ∙ k)));
      calls = λ f n e. may_call p s l seen view.globals (texts.called f) n e;
    }

    closed_slots : (x : Variable) → SlotIsClosed (seen.variable x)
    closed_slots = each (λ x o. SlotIsClosed o) (λ x. global_closed p s l x (slice_get p.globals x)) (λ x v e. (opens x).closed) (λ x e. tt)

    seen_fits : SeenFits seen
    seen_fits = record {
      variables = each (λ x o. SlotFits o) (λ x. global_fits p s l x (slice_get p.globals x)) (λ x v e. (opens x).int) (λ x e. tt);
      table = subst (Holds _) (sym view.table) tt;
      numbers = λ k. subst (Holds _) (sym (view.numbers k)) tt;
      pointers = subst (Holds _) (sym view.pointers) tt;
    }

    seen_unmarked : SeenUnmarked seen
    seen_unmarked = record {
      variables = each (λ x o. SlotUnmarked o) (λ x. global_unmarked p s l x (slice_get p.globals x)) (λ x v e. (opens x).unmarked) (λ x e. tt);
      table = subst (Holds _) (sym view.table) tt;
      numbers = λ k. subst (Holds _) (sym (view.numbers k)) tt;
      pointers = subst (Holds _) (sym view.pointers) tt;
    }

    module _ (a : acsl.Tree) (sts : List State) (q : labelled.State) (sees : Sees p s own q (at_or [] sts l) (λ x. value m (leaves_of sts) (args x))) where
      state_stands : SeenStands m (common_of p s texts a) (leaves_of sts) seen q
      state_stands = record {
        variables = each (λ x o. SlotStands m (common_of p s texts a) (leaves_of sts) x o q)
            (λ x. global_stands p s m (common_of p s texts a) refl (λ y. refl) sts q l x (slice_get p.globals x) refl (sees.file_homes x) (sees.globals x) (sees.file_fits x))
            (λ x v e. (sees.homes x v e, (sees.locals x v e, sees.fits x v e)))
            (λ x e. tt);
        table = subst (Holds _) (sym view.table) tt;
        numbers = λ k. subst (Holds _) (sym (view.numbers k)) tt;
        pointers = subst (Holds _) (sym view.pointers) tt;
      }

  -- ---- readings

  module _ (h e : ℕ) (seen before : Seen) (here : IsView p s own h args seen) (entry : IsView p s own e args before) (named : Bool) (given result : Terms)
      (fine : IsResult p s own texts named given result) (a : acsl.Tree) where
    over : IsOver (texts.binders a) (place_over p texts own named) given (reading_over p s own texts seen before result a)
    over = record {
      serves = record { here = serves h seen here named; pre = serves e before entry named; post = serves h seen here named; loop_entry = serves e before entry named; result = fine.integer };
      closed = record {
        here = closed_slots h seen here;
        pre = closed_slots e before entry;
        post = closed_slots h seen here;
        loop_entry = closed_slots e before entry;
        result = fine.closed;
        binders = λ n. binder_marked (texts.binders a) n;
      };
      fits = record {
        here = seen_fits h seen here;
        pre = seen_fits e before entry;
        post = seen_fits h seen here;
        loop_entry = seen_fits e before entry;
        result = fine.fits;
        binders = λ n. binder_fits (texts.binders a) n (fit.binders a);
        called = fit.called;
      };
      unbound = record {
        here = seen_unmarked h seen here;
        pre = seen_unmarked e before entry;
        post = seen_unmarked h seen here;
        loop_entry = seen_unmarked e before entry;
        result = fine.unmarked;
        spelled = all_lack (texts.binders a) (fit.binders a);
        binders = λ n. refl;
      };
      result = fine.same;
      given_fits = fine.given_fits;
      given_unmarked = fine.given_unmarked;
    }

    no_address : (x : Variable) → is_negative ((common_of p s texts a).hidden x) ≡ true
    no_address (variables.Global x) = refl
    no_address (variables.Local x) = refl

    stands : (w : labelled.World) (sts : List State) → SeesCall m p s own texts h e args given a w sts
        → Stands m (with_result given (reading_over p s own texts seen before result a)) (leaves_of sts) w
    stands w sts sees = record {
      here = state_stands h seen here a sts w.here sees.here_is;
      pre = state_stands e before entry a sts w.pre sees.pre_is;
      post = state_stands h seen here a sts w.post sees.post_is;
      loop_entry = state_stands e before entry a sts w.loop_entry sees.loop_entry_is;
      result = sees.result;
      model = sees.model;
      structs = sees.structs;
      hidden = no_address;
      homes = λ l n. tt;
      long_bits = setting.model;
    }

pub callees_fit : CalleesFit
callees_fit m p s own texts setting fit h e args opens seen before here entry named given result fine a passes =
    let f = annotations_fit m (texts.binders a) (place_over p texts own named) given (reading_over p s own texts seen before result a) p.definitions a
    (over m p s own texts setting fit args opens h e seen before here entry named given result fine a) (fit.calls a) passes in (
      record {
        formula = f.as_formula.formula;
        is = f.as_formula.is;
        closed = f.as_formula.closed;
        means = λ w sts sees.
            f.as_formula.means (leaves_of sts) w (stands m p s own texts setting fit args opens h e seen before here entry named given result fine a w sts sees);
      },
      record {
        term = f.as_number.term;
        is = f.as_number.is;
        closed = f.as_number.closed;
        means = λ w sts sees.
            f.as_number.means (leaves_of sts) w (stands m p s own texts setting fit args opens h e seen before here entry named given result fine a w sts sees);
      },
    )
