-- The slots of a function as its annotations read them: what stands for them, and that it stands for the states.
use Rattle.std.proofs.Common.{◌≡◌, ℕ, pos, negsuc, Bool, true, false, ◌&&◌, ◌||◌, if◌then◌else◌, List, [], ◌∷◌, length, refl, sym, ap, ◌∙◌, subst}
use Rattle.std.specs.Prelude.{Option, Some, None, slice_get}
use Rattle.std.specs.Option.{is_some}
use Rattle.std.specs.List.{list_all}
use Rattle.std.proofs.lemmas.Bool.{and_parts, false≢true}
use Rattle.wp_base.specs.declared.kinds.Kind.{Kind}
use Rattle.c_kinds.specs.declared.models.Machdep.{Machdep}
use Rattle.c_kinds.specs.Models.{holds}
use Rattle.typed_prog.specs.declared.operators.Variable.{Variable}
use Rattle.typed_prog.specs.declared.operators.Variable.TheVariants as variables
use Rattle.c_runs.specs.TruthStates.{number}
use Rattle.c_runs.specs.TruthStates as labelled
use Rattle.qed_terms.specs.Operators.{is_equal}
use Rattle.qed_terms.specs.Tree.{Tree as Term}
use Rattle.qed_terms.specs.Meaning as sense
use Rattle.qed_terms.specs.Meaning.{Values}
use Rattle.c_runs.specs.Program as program
use Rattle.c_runs.specs.Program.{Facts}
use Rattle.plain_states.specs.Slots.{State, at, value_slot, local_value, local_flag}
use Rattle.plain_states.specs.Scopes.{kind_of}
use Rattle.program_steps.specs.Told.{Shape, sizes}
use Rattle.acsl_encode.specs.Readings.{Named, one, two, Global, integer_global, pointer_global, Called, Slot, whole, any_integer, Seen, Common}
use Rattle.acsl_encode.specs.Encode.{all_put, global_of, integer_of}
use Rattle.acsl_encode.specs.Meaning.{number_in, SlotStands}
use Rattle.acsl_encode.specs.WellFormed.{SlotFits, SeenFits}
use Rattle.acsl_encode.specs.Laws.{SlotUnmarked, SeenUnmarked}
use Rattle.walk_steps.specs.State.{at_or}
use Rattle.program_steps.specs.Leaves.{leaf, leaves_of}
use Rattle.program_steps.specs.Terms.{held_in, global_slot, local_slot, slot_of, seen_at, hidden_block}
use Rattle.program_steps.specs.Standing.{SeenAs}
use Rattle.program_steps.proofs.Listing.{leaf_value}
use Rattle.program_steps.proofs.Starting.{leaf_closed}
use Rattle.plain_annotations.specs.Views.{SlotIsInteger, SlotIsClosed, AreIntegers, IsThere, TakesIntegers, MayCall}
use Rattle.plain_annotations.specs.Places.{is_one, are_none, holds_kind, is_given, takes_integers, params_of, is_known}
use Rattle.plain_annotations.proofs.Naming.{leaf_fits, leaf_unmarked}
use Rattle.plain_annotations.proofs.Integers.{put_there}

-- ---- single variables

-- what is so of both kinds of slots is so of a variable's
held_so : (f : Slot → Type 0) (v : program.Variable) (t : Term) → f (whole (kind_of v) t) → f (any_integer t) → f (held_in v t)
held_so f v t a b = by v.has_value
  where
    by : (c : Bool) → f (if c then whole (kind_of v) t else any_integer t)
    by true = a
    by false = b

-- ---- logic functions

ones : (ps : List Named) → list_all is_one ps ≡ true → AreIntegers (length ps) ps
ones [] e = tt
ones (one x ∷ ps) e = ones ps e
ones (two b o ∷ ps) e = absurd (false≢true e)

none_left : {X : Type 0} (xs : List X) → are_none xs ≡ true → xs ≡ []
none_left [] e = refl
none_left (x ∷ xs) e = absurd (false≢true e)

abbrev or_zero : Option ℕ → ℕ
or_zero (Some n) = n
or_zero None = 0

module _ (p : Facts) (s : Shape) where
  kind_given : (m : Machdep) (k : Kind) (l x : ℕ) (o : Option program.Variable) → holds_kind m k o ≡ true → IsThere (integer_of m k (global_slot p s l x o))
  kind_given m k l x (Some v) e = subst (λ b. IsThere (if b then Some (leaf l (value_slot x) ∷ []) else None)) (sym e) tt
  kind_given m k l x None e = absurd (false≢true e)

  -- a state in which the variables of the file have these slots
  abbrev pub SeesFile : (level : ℕ) → Seen → Type 0
  SeesFile l seen = (x : ℕ) → seen.variable (variables.Global x) ≡ global_slot p s l x (slice_get p.globals x)

  globals_given : (l : ℕ) (seen : Seen) → SeesFile l seen → (gs : List Global) → list_all (is_given p) gs ≡ true → IsThere (all_put (global_of p.model seen) gs)
  globals_given l seen sees [] e = tt
  globals_given l seen sees (integer_global n k x ∷ gs) e =
      let b = and_parts (holds_kind p.model k (slice_get p.globals n)) (list_all (is_given p) gs) e in
      put_there (integer_of p.model k (seen.variable (variables.Global n))) (all_put (global_of p.model seen) gs)
      (subst (λ o. IsThere (integer_of p.model k o)) (sym (sees n)) (kind_given p.model k l n (slice_get p.globals n) b.0))
      (globals_given l seen sees gs b.1)
  globals_given l seen sees (pointer_global n b o ∷ gs) e = absurd (false≢true e)

  pub may_call : (l : ℕ) (seen : Seen) → SeesFile l seen → (o : Option Called) (n : ℕ) → params_of p o ≡ Some n → MayCall p.model seen n o
  may_call l seen sees (Some c) n e = by (takes_integers p c) refl e
    where
      by : (b : Bool) → takes_integers p c ≡ b → (if b then Some (length c.params) else None) ≡ Some n → TakesIntegers p.model seen n c
      by true t f =
          let parts = and_parts (list_all is_one c.params) (are_none c.memories && list_all (is_given p) c.globals) t in
          let rest = and_parts (are_none c.memories) (list_all (is_given p) c.globals) parts.1 in
          record {
            integers = subst (λ k. AreIntegers k c.params) (ap or_zero f) (ones c.params parts.0);
            no_memories = none_left c.memories rest.0;
            variables = globals_given l seen sees c.globals rest.1;
          }
      by false t f = absurd (false≢true (ap is_some f))
  may_call l seen sees None n e = absurd (false≢true (ap is_some e))

  -- ---- single slots

  pub global_integer : (l x : ℕ) (o : Option program.Variable) → is_some o ≡ true → SlotIsInteger (global_slot p s l x o)
  global_integer l x (Some v) e = tt
  global_integer l x None e = absurd (false≢true e)

  local_integer : (l x : ℕ) (o : Option program.Variable) → is_some o ≡ true → SlotIsInteger (local_slot p s l x o)
  local_integer l x (Some v) e = held_so SlotIsInteger v (leaf l (local_value (sizes p s) x)) tt tt
  local_integer l x None e = absurd (false≢true e)

  pub global_closed : (l x : ℕ) (o : Option program.Variable) → SlotIsClosed (global_slot p s l x o)
  global_closed l x (Some v) = leaf_closed l (value_slot x)
  global_closed l x None = tt

  local_closed : (l x : ℕ) (o : Option program.Variable) → SlotIsClosed (local_slot p s l x o)
  local_closed l x (Some v) = let c = leaf_closed l (local_value (sizes p s) x) in held_so SlotIsClosed v (leaf l (local_value (sizes p s) x)) c c
  local_closed l x None = tt

  pub global_fits : (l x : ℕ) (o : Option program.Variable) → SlotFits (global_slot p s l x o)
  global_fits l x (Some v) = leaf_fits l (value_slot x)
  global_fits l x None = tt

  local_fits : (l x : ℕ) (o : Option program.Variable) → SlotFits (local_slot p s l x o)
  local_fits l x (Some v) = let f = leaf_fits l (local_value (sizes p s) x) in held_so SlotFits v (leaf l (local_value (sizes p s) x)) f f
  local_fits l x None = tt

  pub global_unmarked : (l x : ℕ) (o : Option program.Variable) → SlotUnmarked (global_slot p s l x o)
  global_unmarked l x (Some v) = leaf_unmarked l (value_slot x)
  global_unmarked l x None = tt

  local_unmarked : (l x : ℕ) (o : Option program.Variable) → SlotUnmarked (local_slot p s l x o)
  local_unmarked l x (Some v) = let u = leaf_unmarked l (local_value (sizes p s) x) in held_so SlotUnmarked v (leaf l (local_value (sizes p s) x)) u u
  local_unmarked l x None = tt

  -- ---- all slots of a state

  pub integers : (g l : ℕ) (x : Variable) → is_known p s.variables x ≡ true → SlotIsInteger (slot_of p s g l x)
  integers g l (variables.Global x) e = global_integer g x (slice_get p.globals x) e
  integers g l (variables.Local x) e = local_integer l x (slice_get s.variables x) e

  pub closed_slots : (g l : ℕ) (x : Variable) → SlotIsClosed (slot_of p s g l x)
  closed_slots g l (variables.Global x) = global_closed g x (slice_get p.globals x)
  closed_slots g l (variables.Local x) = local_closed l x (slice_get s.variables x)

  fit_slots : (g l : ℕ) (x : Variable) → SlotFits (slot_of p s g l x)
  fit_slots g l (variables.Global x) = global_fits g x (slice_get p.globals x)
  fit_slots g l (variables.Local x) = local_fits l x (slice_get s.variables x)

  unmarked_slots : (g l : ℕ) (x : Variable) → SlotUnmarked (slot_of p s g l x)
  unmarked_slots g l (variables.Global x) = global_unmarked g x (slice_get p.globals x)
  unmarked_slots g l (variables.Local x) = local_unmarked l x (slice_get s.variables x)

  pub seen_fits : (g l : ℕ) → SeenFits (seen_at p s g l)
  seen_fits g l = record { variables = fit_slots g l; table = tt; numbers = λ k. tt; pointers = tt }

  pub seen_unmarked : (g l : ℕ) → SeenUnmarked (seen_at p s g l)
  seen_unmarked g l = record { variables = unmarked_slots g l; table = tt; numbers = λ k. tt; pointers = tt }

  -- ---- what stands for a state

  module _ (m : sense.World) (r : Common) (model : r.model ≡ p.model) (hides : (x : Variable) → r.hidden x ≡ hidden_block p s x) (sts : List State) where
    abbrev env : Values
    env = leaves_of sts

    leaf_is : (l i : ℕ) → number_in m env (leaf l i) ≡ at (at_or [] sts l) i
    leaf_is l i = leaf_value m sts l i

    pub global_stands : (q : labelled.State) (g x : ℕ) (o : Option program.Variable) → slice_get p.globals x ≡ o
        → ((v : program.Variable) → slice_get p.globals x ≡ Some v → q.home (variables.Global x) ≡ negsuc x)
        → ((v : program.Variable) → slice_get p.globals x ≡ Some v → q.cells (negsuc x) (pos 0) ≡ number (at (at_or [] sts g) (value_slot x)))
        → ((v : program.Variable) → slice_get p.globals x ≡ Some v → holds p.model (kind_of v) (at (at_or [] sts g) (value_slot x)) ≡ true)
        → SlotStands m r env (variables.Global x) (global_slot p s g x o) q
    global_stands q g x (Some v) e home cells fits = (
      home v e ∙ sym (hides (variables.Global x)),
      (
        ap (λ b. q.cells b (pos 0)) (hides (variables.Global x)) ∙ cells v e ∙ ap number (sym (leaf_is g (value_slot x))),
        subst (λ d. holds d (kind_of v) (number_in m env (leaf g (value_slot x))) ≡ true) (sym model)
            (subst (λ z. holds p.model (kind_of v) z ≡ true) (sym (leaf_is g (value_slot x))) (fits v e)),
      ),
    )
    global_stands q g x None e home cells fits = tt

    local_stands : (q : labelled.State) (file : State) (l x : ℕ) (o : Option program.Variable) → slice_get s.variables x ≡ o → SeenAs p s q file (at_or [] sts l)
        → SlotStands m r env (variables.Local x) (local_slot p s l x o) q
    local_stands q file l x (Some v) e seen = by v.has_value refl
      where
        home : q.home (variables.Local x) ≡ r.hidden (variables.Local x)
        home = seen.homes x v e ∙ sym (hides (variables.Local x))

        held : q.cells (r.hidden (variables.Local x)) (pos 0) ≡ number (number_in m env (leaf l (local_value (sizes p s) x)))
        held = ap (λ b. q.cells b (pos 0)) (hides (variables.Local x)) ∙ seen.locals x v e ∙ ap number (sym (leaf_is l (local_value (sizes p s) x)))

        by : (b : Bool) → v.has_value ≡ b → SlotStands m r env (variables.Local x) (if b then whole (kind_of v) (leaf l (local_value (sizes p s) x)) else any_integer (leaf l (local_value (sizes p s) x))) q
        by true t = (
          home,
          (
            held,
            subst (λ d. holds d (kind_of v) (number_in m env (leaf l (local_value (sizes p s) x))) ≡ true) (sym model)
                (subst (λ z. holds p.model (kind_of v) z ≡ true) (sym (leaf_is l (local_value (sizes p s) x)))
                (seen.fits x v e (ap (λ b. b || is_equal (pos 1) (at (at_or [] sts l) (local_flag (sizes p s) x))) t))),
          ),
        )
        by false t = (home, (held, tt))
    local_stands q file l x None e seen = tt

    pub slots_stand : (q : labelled.State) (g l : ℕ) → SeenAs p s q (at_or [] sts g) (at_or [] sts l) → (x : Variable)
        → SlotStands m r env x (slot_of p s g l x) q
    slots_stand q g l seen (variables.Global x) =
        global_stands q g x (slice_get p.globals x) refl (seen.file_homes x) (seen.globals x) (seen.file_fits x)
    slots_stand q g l seen (variables.Local x) = local_stands q (at_or [] sts g) l x (slice_get s.variables x) refl seen
