-- Points that are passed, and steps that change the table.
use Rattle.std.proofs.Common.{◌≡◌, ℕ, suc, ℤ, int_le, true, false, List, [], ◌∷◌, sym, ap, ap₂, ◌∙◌, subst}
use Rattle.wp_base.specs.declared.kinds.Layout.{Layout}
use Rattle.wp_base.specs.Blocks.{count, alloc, grow}
use Rattle.qed_terms.specs.Fresh.{Used, use_one}
use Rattle.qed_terms.specs.Meaning as sense
use Rattle.qed_terms.specs.Meaning.{Whole, Values, with_int, value}
use Rattle.typed_memories.proofs.Tables.{grown_same}
use Rattle.walk_steps.proofs.Lists.{put_map, put_length}
use Rattle.walk_steps.proofs.Asking.{Holds, holds_front, holds_back, holds_both}
use Rattle.walk_steps.proofs.Naming.{Grows, use_grows, use_itself, next_name, with_next_new}
use Rattle.memory_steps.specs.State.{State, state, with_table, Base, HasSort, HaveSorts}
use Rattle.memory_steps.specs.Forms.{Mark, Slots, datum, data_of, table_of, state_of}
use Rattle.memory_steps.specs.Step.{sort_at}
use Rattle.memory_steps.specs.Run.{made_in, ended_to}
use Rattle.memory_steps.specs.World.{World, new_name, count_base, count_of, mark_base, marked, grown_world, made_world, ended_world}
use Rattle.memory_steps.proofs.Naming.{Agree, agree_less, bring_agrees}
use Rattle.memory_steps.proofs.Assigning.{put_sorts}
use Rattle.memory_steps.proofs.Settled.{Meets, Sound, terms_same, table_same, Settled}
use Rattle.memory_steps.proofs.Trails.{blocks_same, trailed_more, trailed_here, here_same}
use Rattle.memory_steps.proofs.Links.{count_is_base}

module _ (m : sense.World) (bases : List Base) where
  -- ---- a point

  pub mark_grows : (c : Used) → Grows c (use_one c mark_base)
  mark_grows c = use_grows c mark_base

  pub marked_settled : (c : Used) (w : World) → Settled m bases c w → Settled m bases (use_one c mark_base) (marked c w)
  marked_settled c w s =
      let g = mark_grows c in
      let p : Mark = record { number = suc (c mark_base); table = w.slots.table } in
      record {
        size = s.size;
        sorts = s.sorts;
        known = λ env env' a. s.known env env' (agree_less g a);
        slots = record {
          same = λ env env' a. s.slots.same env env' (agree_less g a);
          marks = λ env env' a. here_same m env env' w.slots.trail p (s.slots.marks env env' (agree_less g a)) (table_same m s.slots env env' (agree_less g a));
          trailed = λ env. trailed_here m env w.slots.trail p (s.slots.trailed env);
        };
      }

  pub marked_met : (c : Used) (w : World) (env : Values) (st : State) → Meets m env w st → Meets m env (marked c w) st
  marked_met c w env st h = record { known = h.known; state = h.state }

  -- ---- blocks that were made and have ended

  pub count_grows : (c : Used) → Grows c (use_one c count_base.name)
  count_grows c = use_grows c count_base.name

  number_same : (c : Used) (env env' : Values) → Agree (use_one c count_base.name) env env' → value m env (new_name c count_base) ≡ value m env' (new_name c count_base)
  number_same c env env' a = a.ints count_base.name _ count_is_base (use_itself c count_base.name)

  pub grown_settled : (c : Used) (w : World) → Settled m bases c w → Settled m bases (use_one c count_base.name) (grown_world c w)
  grown_settled c w s =
      let g = count_grows c in
      let x = new_name c count_base in
      record {
        size = s.size;
        sorts = s.sorts;
        known = λ env env' a h.
            holds_both m env' w.known _ (s.known env env' (agree_less g a) (holds_front m env w.known _ h))
            (sym (ap₂ (λ t z. int_le (count t) z) (table_same m s.slots env env' (agree_less g a)) (number_same c env env' a)) ∙ (holds_back m env w.known _ h).0, tt);
        slots = record {
          same = λ env env' a.
              ap₂ (λ ds t. state ds t) (terms_same m s.slots env env' (agree_less g a))
              (ap₂ (λ t z. grow t z) (table_same m s.slots env env' (agree_less g a)) (number_same c env env' a));
          marks = λ env env' a. s.slots.marks env env' (agree_less g a);
          trailed = λ env.
              let t = table_of m env w.slots.table in
              trailed_more m env w.slots.trail t (grow t (value m env x)) (s.slots.trailed env) (grown_same t (value m env x));
        };
      }

  pub grown_ran : (c : Used) (w : World) (env : Values) → Holds m env (grown_world c w).known
      → Holds m env w.known × (int_le (count (table_of m env w.slots.table)) (value m env (new_name c count_base)) ≡ true)
  grown_ran c w env h = (holds_front m env w.known _ h, (holds_back m env w.known _ h).0)

  pub grown_met : (c : Used) (w : World) → Settled m bases c w → (env : Values) (st : State) (z : ℤ) → Meets m env w st → int_le (count st.table) z ≡ true
      → (env' : Values) × Agree c env env' × Meets m env' (grown_world c w) (with_table st (grow st.table z))
  grown_met c w s env st z h le =
      let env' = with_int env (next_name c count_base.name) z in
      let a = bring_agrees false c env count_base.name (Whole z) count_is_base in
      let n : value m env' (new_name c count_base) ≡ z = with_next_new c env count_base.name z in
      let e : state_of m env' w.slots ≡ st = sym (s.slots.same env env' a) ∙ h.state in
      let t : table_of m env' w.slots.table ≡ st.table = ap (λ (st : State). st.table) e in (
        env',
        a,
        record {
          known = holds_both m env' w.known _ (s.known env env' a h.known) (ap₂ (λ t z. int_le (count t) z) t n ∙ le, tt);
          state = ap₂ (λ ds t. state ds t) (ap (λ (st : State). st.slots) e) (ap₂ (λ t z. grow t z) t n);
        },
      )

  -- ---- a block that is made

  pub made_state : (env : Values) (c : Used) (i : ℕ) (l : Layout) (w : World) → state_of m env (made_world c i l w).slots ≡ made_in (state_of m env w.slots) i l
  made_state env c i l w = ap (λ ds. state ds (alloc (table_of m env w.slots.table) l)) (put_map (datum m env) w.slots.terms i (count_of w.slots.table))

  pub made_settled : (c : Used) (i : ℕ) (l : Layout) (w : World) → sort_at bases i ≡ false → Settled m bases c w → Settled m bases (use_one c mark_base) (made_world c i l w)
  made_settled c i l w e s =
      let g = mark_grows c in
      let x = count_of w.slots.table in
      record {
        size = put_length w.slots.terms i x ∙ s.size;
        sorts = λ env.
            subst (HaveSorts bases) (sym (put_map (datum m env) w.slots.terms i x))
            (put_sorts bases (data_of m env w.slots.terms) i (datum m env x) (s.sorts env) (subst (λ y. HasSort y (datum m env x)) (sym e) tt));
        known = λ env env' a. s.known env env' (agree_less g a);
        slots = record {
          same = λ env env' a. made_state env c i l w ∙ ap (λ st. made_in st i l) (s.slots.same env env' (agree_less g a)) ∙ sym (made_state env' c i l w);
          marks = λ env env' a. ap (λ t. alloc t l ∷ []) (table_same m s.slots env env' (agree_less g a));
          trailed = λ env. (blocks_same (alloc (table_of m env w.slots.table) l), tt);
        };
      }

  pub made_met : (c : Used) (i : ℕ) (l : Layout) (w : World) (env : Values) (st : State) → Meets m env w st → Meets m env (made_world c i l w) (made_in st i l)
  made_met c i l w env st h = record { known = h.known; state = made_state env c i l w ∙ ap (λ st. made_in st i l) h.state }

  -- ---- blocks that have ended

  pub ended_settled : (c : Used) (old : Slots) (w : World) → Settled m bases c w → Sound m c old → Settled m bases c (ended_world old w)
  ended_settled c old w s o = record {
    size = s.size;
    sorts = s.sorts;
    known = s.known;
    slots = record {
      same = λ env env' a. ap₂ (λ x st. ended_to x st) (o.same env env' a) (s.slots.same env env' a);
      marks = o.marks;
      trailed = λ env.
          let t = table_of m env old.table in
          let z = count (table_of m env w.slots.table) in
          trailed_more m env old.trail t (grow t z) (o.trailed env) (grown_same t z);
    };
  }

  pub ended_met : (old : Slots) (w : World) (env : Values) (before st : State) → state_of m env old ≡ before → Meets m env w st → Meets m env (ended_world old w) (ended_to before st)
  ended_met old w env before st e h = record { known = h.known; state = ap₂ (λ x st. ended_to x st) e h.state }
