-- Each world that a run may go on in is come to.
use Rattle.std.proofs.Common.{◌≡◌, ℕ, ◌+◌, Bool, true, false, ◌&&◌, ℤ, pos, List, length, Some, slice_get, refl, sym, ap, ◌∙◌, subst, inl, inr}
use Rattle.std.specs.Prelude.{int_le}
use Rattle.std.proofs.lemmas.Bool.{and_parts}
use Rattle.wp_base.specs.declared.kinds.CellKind.{CellKind}
use Rattle.wp_base.specs.declared.kinds.CellKind.TheVariants as cell
use Rattle.wp_base.specs.Blocks.{Table, count, grow}
use Rattle.typed_prog.specs.declared.operators.Variable as code
use Rattle.typed_prog.specs.declared.operators.Variable.TheVariants as variables
use Rattle.qed_terms.specs.Meaning as sense
use Rattle.qed_terms.specs.Operators.{is_equal}
use Rattle.c_runs.specs.TruthStates.{Value, offset_of}
use Rattle.c_runs.specs.Program.{Variable, Facts}
use Rattle.c_runs.specs.States.{plain, held_by, global_home}
use Rattle.c_runs.specs.Scopes.{is_content}
use Rattle.c_runs.specs.CoreRun.{CoreWorld}
use Rattle.c_runs.specs.Tests.{is_set_by}
use Rattle.goal_segments.specs.Told.{IsFlag}
use Rattle.goal_segments.specs.Segments.{LocalGoesOn}
use Rattle.value_terms.specs.Worlds.{flag_of}
use Rattle.typed_memories.proofs.Tests.{on_test, not_both, chosen, unchosen, both_so}
use Rattle.typed_memories.specs.Changes.{Sets}
use Rattle.typed_memories.proofs.Tables.{grown_tables_have_the_same_blocks}
use Rattle.memory_steps.specs.State.{Datum, State, HasSort, with_table}
use Rattle.memory_steps.specs.Step as step
use Rattle.memory_steps.specs.Run as seg
use Rattle.memory_steps.specs.Run.{goes_on, Seg}
use Rattle.memory_words.specs.Places.{Place, value, offset, flag, Sizes, IsIn, slots_in, held, number_in, number_at, changes_by, numbers, blocks, offsets}
use Rattle.memory_words.specs.Shapes.{FileCells, Shape, sizes, kind_of, is_pointer_cell}
use Rattle.memory_words.specs.Standing.{IsHeldAs, LocalIs, Frame, StandsFor}
use Rattle.memory_words.specs.Seen.{InSetting}
use Rattle.memory_words.proofs.Contents.{content_is, file_content}
use Rattle.memory_statements.specs.Renewed.{is_renewed, MemoriesStand, LeaveIs}
use Rattle.memory_statements.specs.RenewalLaws.{ComesTo}
use Rattle.program_steps.specs.Temporaries.{Temporaries}
use Rattle.memory_calls.specs.Havoc.{Havoc, kind_in, found, changes, change_of, grown_if, havoc_word}
use Rattle.memory_calls.specs.HavocLaws.{GoesOn}
use Rattle.memory_calls.proofs.Values.{value_of, first_of, held_so, content_parts, integer_anywhere}
use Rattle.memory_statements.proofs.Places.{not_renewed}
use Rattle.memory_calls.proofs.Changing.{is_changed, changes_so, so_changes, integer_changes, new_at, after, after_size, after_held, after_sorted, changes_to}
use Rattle.memory_calls.proofs.Standing.{below_of, GoesAlong, stands_again}
use Rattle.memory_calls.proofs.Memories.{CellsGoOn, memories_forth}

-- ---- flags

flag_of_is : (b : Bool) → is_equal (pos 1) (flag_of b) ≡ b
flag_of_is true = refl
flag_of_is false = refl

is_flag_of : (b : Bool) → IsFlag (flag_of b)
is_flag_of true = inr refl
is_flag_of false = inl refl

value_same : (k : CellKind) (x x' y y' : ℤ) → x ≡ x' → (is_pointer_cell k ≡ true → y ≡ y') → value_of k x y ≡ value_of k x' y'
value_same (cell.Of k) x x' y y' e f = ap (λ x. value_of (cell.Of k) x y) e
value_same cell.Ptr x x' y y' e f = λ i. value_of cell.Ptr (e i) (f refl i)

module _ (m : sense.World) (p : Facts) (s : Shape) (cells : FileCells) (setting : InSetting m p s cells) (h : Havoc) (set : Sets) (olds : List State)
    (leaves : (st : State) → LeaveIs m h.leave st olds set) (fr : Frame) (scoped : (x : ℕ) → h.variables (variables.Local x) ≡ true → fr.in_scope x ≡ true) (used : Temporaries)
    (c : CoreWorld) (st : State) (stands : StandsFor p s cells fr used c st) (d : CoreWorld)
    (goes : GoesOn p s.variables cells h set used c d) where
  abbrev z : Sizes
  z = sizes p s

  abbrev changing : code.Variable → Bool
  changing x = changes m p s cells h x

  abbrev kind_at : code.Variable → CellKind
  kind_at x = kind_in (found m p s cells h x)

  -- ---- the table

  grown_to : (b : Bool) → cells.has_blocks ≡ b
      → (t : Table) × ((j : ℕ) → Seg olds j (grown_if m p s cells h b) st (goes_on (with_table st t))) × (cells.has_blocks ≡ true → t ≡ d.world.memory.blocks)
  grown_to true there =
      let n = count d.world.memory.blocks in (
        grow st.table n,
        (λ j. seg.grows n (ap (λ t. int_le (count t) n) (stands.table_is there) ∙ goes.blocks.more)),
        (λ e. ap (λ t. grow t n) (stands.table_is there) ∙ (grown_tables_have_the_same_blocks c.world.memory.blocks).back d.world.memory.blocks goes.blocks),
      )
  grown_to false none = (st.table, (λ j. seg.skips), (λ e. not_both cells.has_blocks e none))

  -- ---- variables

  value_in : code.Variable → Value
  value_in (variables.Global x) = d.world.memory.cells (global_home p x) (pos 0)
  value_in (variables.Local x) = held_by (d.world.locals x)

  first : code.Variable → ℤ
  first x = first_of (kind_at x) (value_in x)

  second : code.Variable → ℤ
  second x = offset_of (value_in x)

  is_set : ℕ → Bool
  is_set x = is_set_by (d.world.locals x)

  n : ℤ
  n = count d.world.memory.blocks

  local_goes : (x : ℕ) (v : Variable) → slice_get s.variables x ≡ Some v → v.is_plain ≡ true → h.variables (variables.Local x) ≡ true
      → LocalGoesOn p d.world.memory.blocks v (c.world.locals x) (d.world.locals x)
  local_goes = goes.changed

  content_now : (x : code.Variable) → changing x ≡ true → is_content p n (kind_at x) (value_in x) ≡ true
  unfolding value_in n
  content_now (variables.Global x) on =
      let so = changes_so (h.variables (variables.Global x)) (slice_get p.globals x) on in
      ap (λ o. is_content p (count d.world.memory.blocks) (kind_in o) (d.world.memory.cells (global_home p x) (pos 0))) so.found_it
      ∙ file_content p x so.variable so.found_it d.world.memory goes.good so.plain
  content_now (variables.Local x) on =
      let so = changes_so (h.variables (variables.Local x)) (slice_get s.variables x) on in
      let g = goes.changed x so.variable so.found_it so.plain so.asked in
      ap (λ o. is_content p (count d.world.memory.blocks) (kind_in o) (held_by (d.world.locals x))) so.found_it
      ∙ ap (λ l. is_content p (count d.world.memory.blocks) (kind_of so.variable) (held_by l)) g.same
      ∙ content_is p d.world.memory.blocks (kind_of so.variable) g.held g.fits g.leads

  parts_now : (x : code.Variable) → changing x ≡ true → value_in x ≡ value_of (kind_at x) (first x) (second x)
  unfolding first second
  parts_now x on = content_parts p n (kind_at x) (value_in x) (content_now x on)

  module _ (t : Table) (table : cells.has_blocks ≡ true → t ≡ d.world.memory.blocks) where
    abbrev st₁ : State
    st₁ = with_table st t

    fits_now : (x : code.Variable) → changing x ≡ true → is_content p (count t) (kind_at x) (value_of (kind_at x) (first x) (second x)) ≡ true
    unfolding n
    fits_now x on =
        ap (is_content p (count t) (kind_at x)) (sym (parts_now x on))
        ∙ on_test cells.has_blocks (λ there. ap (λ t. is_content p (count t) (kind_at x) (value_in x)) (table there) ∙ content_now x on)
        (λ none. integer_anywhere p n (count t) (kind_at x) (value_in x) (integer_changes m p s cells setting h none x on) (content_now x on))

    flags_now : (x : ℕ) → changing (variables.Local x) ≡ true
        → IsFlag (number_at z st (flag (variables.Local x))) × (is_equal (pos 1) (number_at z st (flag (variables.Local x))) ≡ true → is_set x ≡ true)
    unfolding is_set
    flags_now x on =
        let so = changes_so (h.variables (variables.Local x)) (slice_get s.variables x) on in
        let l = stands.locals x so.variable so.found_it so.plain (scoped x so.asked) in
        let g = goes.changed x so.variable so.found_it so.plain so.asked in
        (l.is_flag, (λ was. ap is_set_by g.same ∙ g.stays (ap is_set_by l.same ∙ was)))

    abbrev st₂ : State
    st₂ = after m p s cells h olds st₁ stands.size first second is_set stands.sorted fits_now flags_now

    abbrev place_at : Place → Datum
    place_at a = new_at m p s cells h olds st₁ stands.size first second is_set stands.sorted fits_now flags_now a

    size₂ : length st₂.slots ≡ slots_in z
    size₂ = after_size m p s cells h olds st₁ stands.size first second is_set stands.sorted fits_now flags_now

    held₂ : (a : Place) → IsIn z a → held z st₂ a ≡ place_at a
    held₂ = after_held m p s cells h olds st₁ stands.size first second is_set stands.sorted fits_now flags_now

    change_run : (j : ℕ) → Seg olds j (step.change (changes_by z (change_of m p s cells h))) st₁ (goes_on st₂)
    change_run j = seg.changes st₂.slots (changes_to m p s cells h olds st₁ stands.size first second is_set stands.sorted fits_now flags_now)

    kept₂ : (a : Place) → is_changed m p s cells h a ≡ false → place_at a ≡ held z st a
    kept₂ (value x) off = unchosen (changing x) _ _ off
    kept₂ (offset x) off = unchosen (changing x && is_pointer_cell (kind_at x)) _ _ off
    kept₂ (flag (variables.Local x)) off = unchosen (changing (variables.Local x)) _ _ off
    kept₂ (flag (variables.Global x)) off = refl
    kept₂ a off = refl

    on₂ : (x : code.Variable) → changing x ≡ true
        → (number_in (place_at (value x)) ≡ first x) × (is_pointer_cell (kind_at x) ≡ true → number_in (place_at (offset x)) ≡ second x)
    on₂ x on = (
      ap number_in (chosen (changing x) _ _ on),
      (λ ptr. ap number_in (chosen (changing x && is_pointer_cell (kind_at x)) _ _ (both_so (changing x) (is_pointer_cell (kind_at x)) on ptr))),
    )

    on_flag₂ : (x : ℕ) → changing (variables.Local x) ≡ true → number_in (place_at (flag (variables.Local x))) ≡ flag_of (is_set x)
    on_flag₂ x on = ap number_in (chosen (changing (variables.Local x)) _ _ on)

    -- ---- memories

    abbrev renewed : CellKind → Bool
    renewed k = cells.has_kind k && h.kinds k

    stand₂ : MemoriesStand p s cells c.world.memory st₂
    stand₂ = record {
      numbers_are = λ k has. let old = stands.numbers_are k has in record { list = old.list; same = held₂ (numbers k) tt ∙ old.same; reads = old.reads };
      pointers_are = λ has. let old = stands.pointers_are has in record {
        block_list = old.block_list;
        offset_list = old.offset_list;
        same_blocks = held₂ blocks tt ∙ old.same_blocks;
        same_offsets = held₂ offsets tt ∙ old.same_offsets;
        reads = old.reads;
      };
    }

    cells_go_on : CellsGoOn cells h.kinds set c.world.memory d.world.memory
    cells_go_on = record { blocks = goes.blocks; renewed = goes.renewed; kept = goes.kept }

    -- ---- the slots that are come to

    module _ (new : State) (comes : ComesTo p s cells renewed st₂ d.world.memory new) where
      held_new : (a : Place) → IsIn z a → is_renewed renewed a ≡ false → held z new a ≡ place_at a
      held_new a there e = comes.besides.places a there e ∙ held₂ a there

      value_now : (x : code.Variable) → IsIn z (value x) → IsIn z (offset x) → (v : Variable) → found m p s cells h x ≡ Some v → changing x ≡ true
          → IsHeldAs (kind_of v) (value_in x) (number_at z new (value x)) (number_at z new (offset x))
      value_now x there there' v e on =
          subst (λ k. IsHeldAs k (value_in x) (number_at z new (value x)) (number_at z new (offset x))) (ap kind_in e)
          (held_so (kind_at x) (value_in x) (number_at z new (value x)) (number_at z new (offset x))
          (parts_now x on ∙ value_same (kind_at x) (first x) (number_at z new (value x)) (second x) (number_at z new (offset x))
          (sym (ap number_in (held_new (value x) there refl) ∙ (on₂ x on).0)) (λ ptr. sym (ap number_in (held_new (offset x) there' refl) ∙ (on₂ x on).1 ptr))))

      local_now : (x : ℕ) (v : Variable) → slice_get s.variables x ≡ Some v → v.is_plain ≡ true → changing (variables.Local x) ≡ true
          → LocalIs p d.world.memory.blocks v (d.world.locals x) (number_at z new (value (variables.Local x))) (number_at z new (offset (variables.Local x)))
          (number_at z new (flag (variables.Local x)))
      unfolding value_in is_set
      local_now x v e is on =
          let g = goes.changed x v e is (sym (so_changes (h.variables (variables.Local x)) (slice_get s.variables x) v e is) ∙ on) in
          let there = below_of s.variables x v e in
          let set : number_at z new (flag (variables.Local x)) ≡ flag_of g.is_set =
          ap number_in (held_new (flag (variables.Local x)) there refl) ∙ on_flag₂ x on ∙ ap (λ l. flag_of (is_set_by l)) g.same in
          record {
            content = g.held;
            same = g.same ∙ ap (plain g.held) (sym (ap (is_equal (pos 1)) set ∙ flag_of_is g.is_set));
            is = subst (λ w. IsHeldAs (kind_of v) w (number_at z new (value (variables.Local x))) (number_at z new (offset (variables.Local x)))) (ap held_by g.same)
                (value_now (variables.Local x) there there v e on);
            is_flag = subst IsFlag (sym set) (is_flag_of g.is_set);
            fits = λ so. content_is p d.world.memory.blocks (kind_of v) g.held g.fits g.leads;
            leads = g.leads;
          }

      local_kept : (x : ℕ) (v : Variable) → slice_get s.variables x ≡ Some v → changing (variables.Local x) ≡ false → d.world.locals x ≡ c.world.locals x
      local_kept x v e off = on_test v.is_plain
          (λ is. goes.locals x v e is (sym (so_changes (h.variables (variables.Local x)) (slice_get s.variables x) v e is) ∙ off))
          (λ is. goes.homes x v e is)

      along : GoesAlong m p s cells h renewed fr scoped used c st stands d new
      unfolding value_in
      along = record {
        size = comes.besides.size ∙ size₂;
        sorted = λ a there off. subst (HasSort false) (sym (held_new a there (not_renewed cells renewed (λ k on. (and_parts (cells.has_kind k) (h.kinds k) on).0) a off)))
            (after_sorted m p s cells h olds st₁ stands.size first second is_set stands.sorted fits_now flags_now a there off);
        good = goes.good;
        blocks = goes.blocks;
        table = λ there. comes.besides.table ∙ table there;
        memories = comes.memories;
        same = λ a there off e. held_new a there e ∙ kept₂ a off;
        global_changed = λ x v e is on. let there = below_of p.globals x v e in value_now (variables.Global x) there there v e on;
        global_same = λ x v e is off. goes.globals x v e is (sym (so_changes (h.variables (variables.Global x)) (slice_get p.globals x) v e is) ∙ off);
        local_changed = local_now;
        local_kept = local_kept;
        temporaries = goes.temporaries;
      }

      stands_then : StandsFor p s cells fr used d new
      stands_then = stands_again m p s cells h renewed fr scoped used c st stands d new along

  pub goes_forth : (j : ℕ) → (new : State) × Seg olds j (havoc_word m p s cells h) st (goes_on new) × StandsFor p s cells fr used d new
  goes_forth j =
      let t = grown_to cells.has_blocks refl in
      let x = memories_forth m p s cells setting h.kinds h.leave set olds leaves c.world.memory stands.good (st₂ t.0 t.2) (size₂ t.0 t.2) (stand₂ t.0 t.2) d.world.memory goes.good
      (cells_go_on t.0 t.2) t.2 (j + step.count (grown_if m p s cells h cells.has_blocks) + step.count (step.change (changes_by z (change_of m p s cells h)))) in
      (x.0, seg.goes_both (t.1 j) (seg.goes_both (change_run t.0 t.2 _) x.1), stands_then t.0 t.2 x.0 x.2)
