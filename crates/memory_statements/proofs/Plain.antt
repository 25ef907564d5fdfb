-- A variable is made that no pointer leads to.
use Rattle.std.proofs.Common.{◌≡◌, ◌⊎◌, ℕ, suc, ◌+◌, ◌<◌, ℤ, pos, true, false, ◌||◌, List, [], ◌∷◌, length, Some, slice_get, refl, sym, ap, ap₂, ◌∙◌, subst, inl, inr, arith}
use Rattle.std.proofs.lemmas.Bool.{false≢true, lt-ltb}
use Rattle.wp_base.specs.declared.kinds.CellKind.{CellKind}
use Rattle.wp_base.specs.declared.kinds.CellKind.TheVariants as cell
use Rattle.wp_base.specs.Blocks.{Table, count}
use Rattle.typed_prog.specs.declared.operators.Variable.TheVariants as variables
use Rattle.qed_terms.specs.Meaning as sense
use Rattle.qed_terms.specs.Tree.{num}
use Rattle.qed_terms.specs.Operators.{is_equal}
use Rattle.c_runs.specs.TruthStates.{Value, number, pointer, nothing_of}
use Rattle.c_runs.specs.Program.{Variable, Facts}
use Rattle.c_runs.specs.States.{Local, World, plain, with_local}
use Rattle.c_runs.specs.Entry.{leads_well}
use Rattle.c_runs.specs.Scopes.{scalar_of, variable_made, is_content}
use Rattle.c_runs.specs.CoreRun.{CoreWorld, in_world}
use Rattle.goal_segments.specs.Told.{with_name}
use Rattle.goal_segments.specs.Segments.{IsAny, Opened, with_value, not_set}
use Rattle.goal_segments.proofs.Told.{zero_of}
use Rattle.typed_memories.proofs.Tests.{chosen, unchosen}
use Rattle.run_blocks.proofs.Standing.{still}
use Rattle.program_steps.specs.Temporaries.{Temporaries}
use Rattle.memory_steps.specs.State.{State, number as number_datum, with_slots, nothing}
use Rattle.memory_steps.specs.Step as step
use Rattle.memory_steps.specs.Step.{Step, count as checks_in}
use Rattle.memory_steps.specs.Run.{End, goes_on, IsOver, Seg, set_in}
use Rattle.memory_steps.specs.Run as seg
use Rattle.memory_steps.proofs.Readings.{seq_ways, change_way, set_way}
use Rattle.memory_words.specs.Places.{Place, value, answer, offset, flag, Sizes, IsIn, slots_in, held, with_held, number_in, number_at, changes_by}
use Rattle.memory_words.proofs.Holding.{puts_are_held}
use Rattle.memory_words.proofs.Lists.{found_below}
use Rattle.memory_words.specs.Shapes.{FileCells, Shape, sizes, kind_of}
use Rattle.memory_words.specs.Standing.{IsHeldAs, LocalIs, Frame, AllLive, StandsFor}
use Rattle.memory_words.proofs.Files.{held_same}
use Rattle.memory_words.proofs.Sorts.{held_number}
use Rattle.memory_words.specs.Words.{any_change, opened, zero_term, set_variable, set_number}
use Rattle.memory_words.specs.Puts.{Keeps, IsOfVariable, ScopeHas, Gives, Reaches}
use Rattle.memory_statements.specs.Scopes.{frame_inside, OpenedAs}
use Rattle.memory_words.proofs.PutStanding.{locals_are_put}
use Rattle.memory_words.proofs.Setting.{locals_are_set}
use Rattle.memory_statements.proofs.Ending.{goes_parts, same_own}
use Rattle.memory_statements.proofs.Framing.{named_or_not, name_in, retabled}
use Rattle.memory_statements.proofs.AnyValue.{LeadsAny, any_in, any_size, any_value, any_offset, any_others, any_sorted, any_changes, any_from}

-- what one variable is made to, by a way to make it and by a run of its word
module _ (m : sense.World) (p : Facts) (s : Shape) (cells : FileCells) (fr : Frame) (f : Temporaries) (c : CoreWorld) (olds : List State) (x : ℕ) (v : Variable) (w : World)
    (st : State) where
  abbrev pub MadeTo : ℕ → World → Type 0
  MadeTo n u = (new : State) × Seg olds n (opened m p s cells x (Some v)) st (goes_on new) × OpenedAs p s cells fr f (x ∷ []) (in_world c w) u new

  -- the first of several ones
  abbrev pub MadeFrom : End → Type 0
  MadeFrom e = (u : World) × ((ys : List ℕ) (u' : World) → Opened p s.variables ys u u' → Opened p s.variables (x ∷ ys) w u')
      × ((new : State) × (goes_on new ≡ e) × OpenedAs p s cells fr f (x ∷ []) (in_world c w) u new)

nothing_fits : (p : Facts) (t : Table) (k : CellKind) → is_content p (count t) k (nothing_of k) ≡ true
nothing_fits p t (cell.Of k) = zero_of p.model k
nothing_fits p t cell.Ptr = lt-ltb 0 (suc (length t)) (omega arith)

nothing_given : (m : sense.World) (p : Facts) (s : Shape) (cells : FileCells) (olds : List State) (a : Place) (k : CellKind) (st : State)
    → Gives m (sizes p s) olds a k (zero_term m p s cells k) (nothing_of k) st
nothing_given m p s cells olds a (cell.Of k) st = record { held = refl; stays = refl }
nothing_given m p s cells olds a cell.Ptr st = record { held = refl; stays = refl }

module _ (m : sense.World) (p : Facts) (s : Shape) (cells : FileCells) (fr : Frame) (all : AllLive fr) (f : Temporaries) (c : CoreWorld) (olds : List State) (x : ℕ) (v : Variable)
    (found : slice_get s.variables x ≡ Some v) (plain_v : v.is_plain ≡ true) (out : fr.in_scope x ≡ false) (w : World) (st : State) (stands : StandsFor p s cells fr f (in_world c w) st)
  where
    abbrev behind : Frame
    behind = frame_inside fr (x ∷ []) fr.table fr.homes

    all_behind : AllLive behind
    all_behind y h = h

    scope_has : ScopeHas x fr behind
    scope_has = record {
      now = name_in x fr.in_scope;
      scope = λ y apart. by y apart (named_or_not x y);
      lives = λ y apart h. all y (sym (by y apart (named_or_not x y)) ∙ h);
      table = refl;
      homes = λ y. refl;
    }
      where
        by : (y : ℕ) → (x ≡ y → ⊥) → (x ≡ y) ⊎ ((x ≡ y → ⊥) × ((i : _) → with_name x i y ≡ i y)) → with_name x fr.in_scope y ≡ fr.in_scope y
        by y apart (inl e) = absurd (apart e)
        by y apart (inr r) = r.1 fr.in_scope

    opened_as : (l : Local) (contents : List Value) (new : State) → StandsFor p s cells behind f (in_world c (with_local x l (record w { contents = contents }))) new
        → OpenedAs p s cells fr f (x ∷ []) (in_world c w) (with_local x l (record w { contents = contents })) new
    opened_as l contents new h = record {
      homes = fr.homes;
      kept = λ y scoped. refl;
      stands = retabled p s cells f (in_world c (with_local x l (record w { contents = contents }))) new behind all_behind h w.memory.blocks (same_own w.memory.blocks);
      blocks = still w.memory.blocks;
      kinds = λ k none b o. refl;
      none = λ none. refl;
    }

    -- ---- with a value

    abbrev z : Sizes
    z = sizes p s

    module _ (has : v.has_value ≡ true) where
      value_word : opened m p s cells x (Some v) ≡ set_variable m z (kind_of v) (variables.Local x) (zero_term m p s cells (kind_of v))
      value_word = chosen v.is_plain _ _ plain_v ∙ chosen v.has_value _ _ has

      made_world : variable_made p x (Some v) w ≡ with_local x (plain (nothing_of (kind_of v)) true) w
      made_world = chosen v.is_plain _ _ plain_v ∙ chosen v.has_value _ _ has

      reaches : Reaches olds (set_variable m z (kind_of v) (variables.Local x) (zero_term m p s cells (kind_of v))) st
          (StandsFor p s cells behind f (in_world c (with_local x (plain (nothing_of (kind_of v)) true) w)))
      reaches = locals_are_set m p s cells fr f (in_world c w) st stands olds x v found plain_v behind scope_has (zero_term m p s cells (kind_of v)) (nothing_of (kind_of v))
          (nothing_given m p s cells olds answer (kind_of v) st) (nothing_fits p w.memory.blocks (kind_of v))

      valued_as : OpenedAs p s cells fr f (x ∷ []) (in_world c w) (variable_made p x (Some v) w) reaches.state
      valued_as = subst (λ u. OpenedAs p s cells fr f (x ∷ []) (in_world c w) u reaches.state) (sym made_world) (opened_as (plain (nothing_of (kind_of v)) true) w.contents reaches.state reaches.is)

      pub value_to : (n : ℕ) → MadeTo m p s cells fr f c olds x v w st n (variable_made p x (Some v) w)
      value_to n = (reaches.state, subst (λ b. Seg olds n b st (goes_on reaches.state)) (sym value_word) (reaches.end.runs n), valued_as)

      pub value_from : (n : ℕ) (e : End) → Seg olds n (opened m p s cells x (Some v)) st e → MadeFrom m p s cells fr f c olds x v w st e
      value_from n e k = (
        variable_made p x (Some v) w,
        λ ys u' rest. with_value found has plain_v rest,
        (reaches.state, reaches.end.only n e (subst (λ b. Seg olds n b st e) value_word k), valued_as),
      )

    -- ---- with any one

    module _ (none : v.has_value ≡ false) where
      below : x < length s.variables
      below = found_below s.variables x v found

      abbrev any_step : Step
      any_step = step.change (changes_by z (any_change m p s cells (kind_of v) x))

      abbrev flag_step : Step
      flag_step = set_number m z (flag (variables.Local x)) (num (pos 0))

      any_word : opened m p s cells x (Some v) ≡ step.seq any_step flag_step
      any_word = chosen v.is_plain _ _ plain_v ∙ unchosen v.has_value _ _ none

      value_before : held z st (value (variables.Local x)) ≡ nothing
      value_before = (stands.unscoped x below out).1

      offset_before : held z st (offset (variables.Local x)) ≡ nothing
      offset_before = (stands.unscoped x below out).2

      abbrev any_slots : (k : CellKind) (a b : ℤ) → State
      any_slots k a b = any_in m p s cells x olds st stands.size below value_before offset_before k a b

      abbrev mid : (k : CellKind) (a b : ℤ) → State
      mid k a b = with_slots st (any_slots k a b).slots

      abbrev end : (k : CellKind) (a b : ℤ) → State
      end k a b = with_held z (flag (variables.Local x)) (number_datum (pos 0)) (mid k a b)

      mid_size : (k : CellKind) (a b : ℤ) → length (mid k a b).slots ≡ slots_in z
      mid_size k a b = any_size m p s cells x olds st stands.size below value_before offset_before k a b

      flag_end : (k : CellKind) (a b : ℤ) → number_at z (end k a b) (flag (variables.Local x)) ≡ pos 0
      flag_end k a b = ap number_in (puts_are_held z (flag (variables.Local x)) (number_datum (pos 0)) (mid k a b) below (mid_size k a b)).here

      flag_value : {y : _} → flag y ≡ value (variables.Local x) → ⊥
      flag_value e = cc

      flag_offset : {y : _} → flag y ≡ offset (variables.Local x) → ⊥
      flag_offset e = cc

      other_end : (k : CellKind) (a b : ℤ) (d : Place) → IsIn z d → (flag (variables.Local x) ≡ d → ⊥) → held z (end k a b) d ≡ held z (any_slots k a b) d
      other_end k a b d there apart = (puts_are_held z (flag (variables.Local x)) (number_datum (pos 0)) (mid k a b) below (mid_size k a b)).elsewhere d there apart

      end_keeps : (k : CellKind) (a b : ℤ) → Keeps z f (IsOfVariable (variables.Local x)) st (end k a b)
      end_keeps k a b = record {
        size = (puts_are_held z (flag (variables.Local x)) (number_datum (pos 0)) (mid k a b) below (mid_size k a b)).size ∙ mid_size k a b;
        table = refl;
        same = λ d there counted apart.
            other_end k a b d there (λ e. apart (subst (IsOfVariable (variables.Local x)) e refl))
            ∙ any_others m p s cells x olds st stands.size below value_before offset_before k a b d there (λ e. apart (subst (IsOfVariable (variables.Local x)) e refl))
            (λ e. apart (subst (IsOfVariable (variables.Local x)) e refl));
        sorted = λ d there was.
            held_number z (flag (variables.Local x)) (pos 0) (mid k a b) d (any_sorted m p s cells x olds st stands.size below value_before offset_before k a b d was);
      }

      -- what the places hold
      held_mid : (k : CellKind) (u : Value) (a b : ℤ) → IsHeldAs k u a b
          → IsHeldAs k u (number_at z (any_slots k a b) (value (variables.Local x))) (number_at z (any_slots k a b) (offset (variables.Local x)))
      held_mid (cell.Of j) u a b h = h ∙ ap number (sym (ap number_in (any_value m p s cells x olds st stands.size below value_before offset_before (cell.Of j) a b)))
      held_mid cell.Ptr u a b h =
          let first : a ≡ number_at z (any_slots cell.Ptr a b) (value (variables.Local x)) =
          sym (ap number_in (any_value m p s cells x olds st stands.size below value_before offset_before cell.Ptr a b)) in
          let second : b ≡ number_at z (any_slots cell.Ptr a b) (offset (variables.Local x)) =
          sym (ap number_in (any_offset m p s cells x olds st stands.size below value_before offset_before a b)) in
          h ∙ (λ i. pointer (first i) (second i))

      local_end : (k : CellKind) (u : Value) (a b : ℤ) → kind_of v ≡ k → IsHeldAs k u a b → leads_well u ≡ true
          → LocalIs p w.memory.blocks v (plain u false) (number_at z (end k a b) (value (variables.Local x))) (number_at z (end k a b) (offset (variables.Local x)))
          (number_at z (end k a b) (flag (variables.Local x)))
      local_end k u a b kind h leads = record {
        content = u;
        same = ap (λ t. plain u (is_equal (pos 1) t)) (sym (flag_end k a b));
        is = subst (λ j. IsHeldAs j u (number_at z (end k a b) (value (variables.Local x))) (number_at z (end k a b) (offset (variables.Local x)))) (sym kind)
            (held_same k u (number_at z (any_slots k a b) (value (variables.Local x))) (number_at z (any_slots k a b) (offset (variables.Local x)))
            (number_at z (end k a b) (value (variables.Local x))) (number_at z (end k a b) (offset (variables.Local x)))
            (ap number_in (other_end k a b (value (variables.Local x)) below flag_value)) (ap number_in (other_end k a b (offset (variables.Local x)) below flag_offset)) (held_mid k u a b h));
        is_flag = inl (flag_end k a b);
        fits = λ t. absurd (false≢true (sym (ap₂ (λ b d. b || is_equal (pos 1) d) none (flag_end k a b)) ∙ t));
        leads = leads;
      }

      any_as : (k : CellKind) (u : Value) (contents : List Value) (a b : ℤ) → kind_of v ≡ k → IsHeldAs k u a b → leads_well u ≡ true
          → OpenedAs p s cells fr f (x ∷ []) (in_world c w) (with_local x (plain u false) (record w { contents = contents })) (end k a b)
      any_as k u contents a b kind h leads =
          opened_as (plain u false) contents (end k a b)
          (locals_are_put p s cells fr f (in_world c w) st stands x v found plain_v behind scope_has (plain u false) contents (end k a b) (end_keeps k a b) (local_end k u a b kind h leads))

      any_run : (a b : ℤ) → LeadsAny m p s cells x (kind_of v) a → (n : ℕ) → Seg olds n (opened m p s cells x (Some v)) st (goes_on (end (kind_of v) a b))
      any_run a b leads n =
          subst (λ w. Seg olds n w st (goes_on (end (kind_of v) a b))) (sym any_word)
          (seg.goes_both (seg.changes (any_slots (kind_of v) a b).slots (any_changes m p s cells x olds st stands.size below value_before offset_before (kind_of v) a b leads)) seg.sets)

      any_to_by : (k : CellKind) → kind_of v ≡ k → (u : Value) → IsAny k u → (contents : List Value) (n : ℕ)
          → MadeTo m p s cells fr f c olds x v w st n (with_local x (plain u false) (record w { contents = contents }))
      any_to_by (cell.Of j) kind u (a, is) contents n = (
        end (cell.Of j) a (pos 0),
        subst (λ k. Seg olds n (opened m p s cells x (Some v)) st (goes_on (end k a (pos 0)))) kind
            (any_run a (pos 0) (subst (λ k. LeadsAny m p s cells x k a) (sym kind) tt) n),
        any_as (cell.Of j) u contents a (pos 0) kind is (ap leads_well is),
      )
      any_to_by cell.Ptr kind u (a, b, is, leads) contents n = (
        end cell.Ptr a b,
        subst (λ k. Seg olds n (opened m p s cells x (Some v)) st (goes_on (end k a b))) kind
            (any_run a b (subst (λ k. LeadsAny m p s cells x k a) (sym kind) leads) n),
        any_as cell.Ptr u contents a b kind is (ap leads_well is ∙ leads),
      )

      pub any_to : (u : Value) → IsAny (scalar_of v.layout.cells) u → (contents : List Value) (n : ℕ)
          → MadeTo m p s cells fr f c olds x v w st n (with_local x (plain u false) (record w { contents = contents }))
      any_to u is contents n = any_to_by (kind_of v) refl u is contents n

      -- ---- and back

      abbrev value_of : CellKind → (a b : ℤ) → Value
      value_of (cell.Of j) a b = number a
      value_of cell.Ptr a b = pointer a b

      is_any : (k : CellKind) (a b : ℤ) → LeadsAny m p s cells x k a → IsAny k (value_of k a b)
      is_any (cell.Of j) a b leads = (a, refl)
      is_any cell.Ptr a b leads = (a, b, refl, leads)

      is_held : (k : CellKind) (a b : ℤ) → IsHeldAs k (value_of k a b) a b
      is_held (cell.Of j) a b = refl
      is_held cell.Ptr a b = refl

      leads_so : (k : CellKind) (a b : ℤ) → LeadsAny m p s cells x k a → leads_well (value_of k a b) ≡ true
      leads_so (cell.Of j) a b leads = refl
      leads_so cell.Ptr a b leads = leads

      ended_so : (a b : ℤ) → LeadsAny m p s cells x (kind_of v) a → (e : End) → goes_on (end (kind_of v) a b) ≡ e → MadeFrom m p s cells fr f c olds x v w st e
      ended_so a b leads e is = (
        with_local x (plain (value_of (kind_of v) a b) false) (record w { contents = w.contents }),
        λ ys u' rest. not_set found none plain_v (value_of (kind_of v) a b) (is_any (kind_of v) a b leads) w.contents rest,
        (end (kind_of v) a b, is, any_as (kind_of v) (value_of (kind_of v) a b) w.contents a b refl (is_held (kind_of v) a b) (leads_so (kind_of v) a b leads)),
      )

      pub any_from_run : (n : ℕ) (e : End) → Seg olds n (opened m p s cells x (Some v)) st e → MadeFrom m p s cells fr f c olds x v w st e
      any_from_run n e k = by (seq_ways (subst (λ b. Seg olds n b st e) any_word k)) where
        by : (IsOver e × Seg olds n any_step st e) ⊎ ((to : State) × Seg olds n any_step st (goes_on to) × Seg olds (n + checks_in any_step) flag_step to e)
            → MadeFrom m p s cells fr f c olds x v w st e
        by (inl (over, k)) = absurd (subst IsOver (sym (change_way k).2) over)
        by (inr (to, k, l)) =
            let r = change_way k in
            let is = any_from m p s cells x olds st stands.size below value_before offset_before r.0 (kind_of v) r.1 in
            ended_so is.first is.second is.leads e
            (ap (λ ds. goes_on (with_held z (flag (variables.Local x)) (number_datum (pos 0)) (with_slots st ds))) is.same
            ∙ ap (λ st. goes_on (with_held z (flag (variables.Local x)) (number_datum (pos 0)) st)) (goes_parts r.2) ∙ set_way l)
