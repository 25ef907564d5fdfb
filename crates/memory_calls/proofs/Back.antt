-- Each run comes to a world that it may go on in.
use Rattle.std.proofs.Common.{◌≡◌, ◌⊎◌, ℕ, zero, suc, ◌+◌, Bool, true, false, ◌&&◌, ℤ, pos, negsuc, List, ◌∷◌, Some, slice_get, refl, sym, ap, ◌∙◌, subst, inl, inr, add-zero, arith}
use Rattle.std.specs.Prelude.{int_le}
use Rattle.std.proofs.lemmas.Bool.{false≢true, and_parts, leb-true}
use Rattle.std.proofs.lemmas.Option.{slice_get_past}
use Rattle.wp_base.specs.declared.kinds.CellKind.{CellKind}
use Rattle.wp_base.specs.declared.kinds.CellKind.TheVariants as cell
use Rattle.wp_base.specs.Blocks.{Table, count, is_cell, grow}
use Rattle.typed_prog.specs.declared.operators.Variable as code
use Rattle.typed_prog.specs.declared.operators.Variable.TheVariants as variables
use Rattle.qed_terms.specs.Meaning as sense
use Rattle.qed_terms.specs.Operators.{is_equal}
use Rattle.c_runs.specs.TruthStates.{Value}
use Rattle.c_runs.specs.Program.{Variable, Facts}
use Rattle.c_runs.specs.States.{Local, plain, Memory, global_home}
use Rattle.c_runs.specs.Scopes.{is_content}
use Rattle.c_runs.proofs.Numbers.{equal_is, zero_when}
use Rattle.c_runs.specs.CoreRun.{CoreWorld}
use Rattle.c_runs.specs.Tests.{is_set_by}
use Rattle.goal_segments.specs.Told.{IsGood, IsFlag}
use Rattle.goal_segments.specs.Segments.{SameBlocks, LocalGoesOn}
use Rattle.goal_segments.proofs.Told.{no_negative}
use Rattle.typed_memories.proofs.Tests.{on_test, not_both, chosen, unchosen, same_number}
use Rattle.typed_memories.specs.Changes.{Sets}
use Rattle.typed_memories.proofs.Tables.{grown_tables_have_the_same_blocks}
use Rattle.memory_steps.specs.State.{Datum, number, cells as memory_datum, State, HasSort, with_slots, with_table}
use Rattle.memory_steps.specs.Step as step
use Rattle.memory_steps.specs.Step.{Step, skip}
use Rattle.memory_steps.specs.Run as seg
use Rattle.memory_steps.specs.Run.{End, goes_on, IsOver, Raised, Changes, Seg}
use Rattle.memory_steps.proofs.Readings.{seq_ways, grows_then, changes_then}
use Rattle.memory_words.specs.Places.{Place, value, offset, flag, numbers, blocks, offsets, Sizes, IsIn, held, number_in, number_at, changes_by}
use Rattle.memory_words.specs.Shapes.{FileCells, Shape, sizes, kind_of}
use Rattle.memory_words.specs.Standing.{IsHeldAs, LocalIs, Frame, StandsFor}
use Rattle.memory_words.specs.Seen.{InSetting}
use Rattle.memory_words.specs.Renewal.{renewal}
use Rattle.memory_statements.specs.Renewed.{is_renewed, MemoriesStand, LeaveIs}
use Rattle.program_steps.specs.Temporaries.{Temporaries}
use Rattle.memory_calls.specs.Havoc.{Havoc, changes_plain, kind_in, found, changes, change_of, grown_if, havoc_word}
use Rattle.memory_calls.specs.HavocLaws.{GoesOn, SameUntold}
use Rattle.memory_calls.proofs.Values.{value_of, held_so, content_value, integer_anywhere}
use Rattle.memory_calls.proofs.Homes.{cell_of_plain, plain_of_cell, home_of_cell, memory_with, at_home, at_hidden, with_good, with_read}
use Rattle.memory_statements.proofs.Places.{not_renewed}
use Rattle.memory_calls.proofs.Changing.{Renewed, renewed as renewed_of, so_changes, integer_changes, not_plain}
use Rattle.memory_calls.proofs.Standing.{below_of, GoesAlong, stands_again}
use Rattle.memory_calls.proofs.Memories.{Behind, memories_back}

-- ---- flags

flag_between : (y : ℤ) → int_le (pos 0) y ≡ true → int_le y (pos 1) ≡ true → IsFlag y
flag_between (pos zero) h k = inl refl
flag_between (pos (suc zero)) h k = inr refl
flag_between (pos (suc (suc n))) h k = let l = leb-true (suc (suc n)) 1 k in absurd (omega (arith, l))
flag_between (negsuc n) h k = absurd (false≢true h)

one_stays : (x y : ℤ) → IsFlag y → pos 1 ≡ x → int_le x y ≡ true → is_equal (pos 1) y ≡ true
one_stays x y (inl e) so more = absurd (false≢true (sym (λ i. int_le (sym so i) (e i)) ∙ more))
one_stays x y (inr e) so more = ap (is_equal (pos 1)) e

-- what is raised is a flag, and what was set stays so
pub raised_flag : (x y : Datum) → Raised x y → IsFlag (number_in y) × (is_equal (pos 1) (number_in x) ≡ true → is_equal (pos 1) (number_in y) ≡ true)
raised_flag (number x) (number y) h =
    let is = flag_between y h.0 h.1 in (is, (λ was. one_stays x y is (same_number (pos 1) x (sym (equal_is (pos 1) x) ∙ was)) h.2))
raised_flag (number x) (memory_datum l) h = absurd h
raised_flag (memory_datum k) (number y) h = absurd h
raised_flag (memory_datum k) (memory_datum l) h = absurd h

-- ---- the steps before

skip_way : {olds : List State} {n : ℕ} {st : State} {o : End} → Seg olds n skip st o → goes_on st ≡ o
skip_way seg.skips = refl

goes_parts : {a b : State} → goes_on a ≡ goes_on b → a ≡ b
goes_parts e = cc

skips_then : {olds : List State} {n : ℕ} {b : Step} {st : State} {o : End} → Seg olds n (step.seq skip b) st o → Seg olds n b st o
skips_then {olds} {n} {b} {st} {o} run = by (seq_ways run)
  where
    by : (IsOver o × Seg olds n skip st o) ⊎ ((mid : State) × Seg olds n skip st (goes_on mid) × Seg olds (n + step.count skip) b mid o) → Seg olds n b st o
    by (inl (over, a)) = absurd (subst IsOver (sym (skip_way a)) over)
    by (inr (mid, a, k)) = subst (λ n. Seg olds n b st o) (add-zero n) (subst (λ st. Seg olds (n + step.count skip) b st o) (sym (goes_parts (skip_way a))) k)

module _ (m : sense.World) (p : Facts) (s : Shape) (cells : FileCells) (setting : InSetting m p s cells) (h : Havoc) (set : Sets) (olds : List State)
    (leaves : (st : State) → LeaveIs m h.leave st olds set) (fr : Frame) (scoped : (x : ℕ) → h.variables (variables.Local x) ≡ true → fr.in_scope x ≡ true) (used : Temporaries)
    (c : CoreWorld) (st : State) (stands : StandsFor p s cells fr used c st) where
  abbrev z : Sizes
  z = sizes p s

  abbrev changing : code.Variable → Bool
  changing x = changes m p s cells h x

  abbrev kind_at : code.Variable → CellKind
  kind_at x = kind_in (found m p s cells h x)

  abbrev file_changes : ℕ → Bool
  file_changes x = changing (variables.Global x)

  -- a table that was grown, if the file has blocks
  abbrev HasGrown : ℕ → Step → End → Type 0
  HasGrown j b e = (t : Table) × (cells.has_blocks ≡ true → SameBlocks c.world.memory.blocks t) × Seg olds j b (with_table st t) e

  grown_from : (has : Bool) → cells.has_blocks ≡ has → (j : ℕ) (b : Step) (e : End) → Seg olds j (step.seq (grown_if m p s cells h has) b) st e → HasGrown j b e
  grown_from true there j b e run =
      let x = grows_then run in (
        grow st.table x.0,
        (λ there. subst (λ t. SameBlocks c.world.memory.blocks (grow t x.0)) (sym (stands.table_is there))
            ((grown_tables_have_the_same_blocks c.world.memory.blocks).grown x.0)),
        x.2,
      )
  grown_from false none j b e run = (st.table, (λ there. not_both cells.has_blocks there none), skips_then run)

  -- ---- the world

  module _ (t : Table) (table : cells.has_blocks ≡ true → SameBlocks c.world.memory.blocks t) (ds : List Datum)
      (change : Changes (with_table st t ∷ olds) (changes_by z (change_of m p s cells h)) st.slots ds) where
    abbrev st₁ : State
    st₁ = with_table st t

    abbrev st₂ : State
    st₂ = with_slots st₁ ds

    changed : Renewed m p s cells h st₁ st₂
    changed = renewed_of m p s cells h olds st₁ stands.size ds change

    stand₂ : MemoriesStand p s cells c.world.memory st₂
    stand₂ = record {
      numbers_are = λ k has. let old = stands.numbers_are k has in record { list = old.list; same = sym (changed.same (numbers k) tt refl) ∙ old.same; reads = old.reads };
      pointers_are = λ has. let old = stands.pointers_are has in record {
        block_list = old.block_list;
        offset_list = old.offset_list;
        same_blocks = sym (changed.same blocks tt refl) ∙ old.same_blocks;
        same_offsets = sym (changed.same offsets tt refl) ∙ old.same_offsets;
        reads = old.reads;
      };
    }

    abbrev renewed : CellKind → Bool
    renewed k = cells.has_kind k && h.kinds k

    module _ (new : State) (n : Memory)
        (behind : Behind m p s cells setting h.kinds h.leave set olds leaves c.world.memory stands.good st₂ changed.size stand₂ new n) where
      -- what places of variables stand for
      abbrev value_now : code.Variable → Value
      value_now x = value_of (kind_at x) (number_at z st₂ (value x)) (number_at z st₂ (offset x))

      abbrev set_now : ℕ → Bool
      set_now x = is_equal (pos 1) (number_at z st₂ (flag (variables.Local x)))

      abbrev local_by : Bool → ℕ → Local
      local_by true x = plain (value_now (variables.Local x)) (set_now x)
      local_by false x = c.world.locals x

      abbrev memory_now : Memory
      memory_now = memory_with p file_changes (λ x. value_now (variables.Global x)) n

      abbrev d : CoreWorld
      d = record { world = record c.world { memory = memory_now; locals = λ x. local_by (changing (variables.Local x)) x }; temps = c.temps }

      content_now : (x : code.Variable) → IsIn z (value x) → changing x ≡ true → is_content p (count n.blocks) (kind_at x) (value_now x) ≡ true
      content_now x there on = on_test cells.has_blocks
          (λ has. ap (λ t. is_content p (count t) (kind_at x) (value_now x)) (sym (behind.table has)) ∙ changed.fits x there on)
          (λ none. integer_anywhere p (count t) (count n.blocks) (kind_at x) (value_now x) (integer_changes m p s cells setting h none x on) (changed.fits x there on))

      global_content : (x : ℕ) (v : Variable) → slice_get p.globals x ≡ Some v → v.is_plain ≡ true → file_changes x ≡ true
          → is_content p (count n.blocks) (kind_of v) (value_now (variables.Global x)) ≡ true
      global_content x v e is on =
          ap (λ o. is_content p (count n.blocks) (kind_in o) (value_now (variables.Global x))) (sym e) ∙ content_now (variables.Global x) (below_of p.globals x v e) on

      good_now : IsGood p memory_now
      good_now = with_good p file_changes (λ x. value_now (variables.Global x)) n behind.stays_good global_content

      same_cell : (k : CellKind) (b o : ℤ) → is_cell k c.world.memory.blocks b o ≡ true → memory_now.cells b o ≡ n.cells b o
      same_cell k (pos i) o is = refl
      same_cell k (negsuc i) o is = absurd (no_negative k c.world.memory.blocks i o is)

      file_off : (x : ℕ) (v : Variable) → slice_get p.globals x ≡ Some v → v.is_plain ≡ true → file_changes x ≡ false
          → memory_now.cells (global_home p x) (pos 0) ≡ c.world.memory.cells (global_home p x) (pos 0)
      file_off x v e is off =
          let i = cell_of_plain p x v e is in
          at_home p file_changes (λ x. value_now (variables.Global x)) n.cells x v e is ∙ unchosen (file_changes x) _ _ off
          ∙ ap (λ b. n.cells b (pos 0)) i.1 ∙ behind.hidden i.0 (pos 0) ∙ ap (λ b. c.world.memory.cells b (pos 0)) (sym i.1)

      -- ---- variables of the function

      local_on : (x : ℕ) → changing (variables.Local x) ≡ true → d.world.locals x ≡ plain (value_now (variables.Local x)) (set_now x)
      local_on x on = ap (λ b. local_by b x) on

      local_off : (x : ℕ) → changing (variables.Local x) ≡ false → d.world.locals x ≡ c.world.locals x
      local_off x off = ap (λ b. local_by b x) off

      flag_now : (x : ℕ) (v : Variable) → slice_get s.variables x ≡ Some v → changing (variables.Local x) ≡ true
          → IsFlag (number_at z st₂ (flag (variables.Local x))) × (is_equal (pos 1) (number_at z st (flag (variables.Local x))) ≡ true → set_now x ≡ true)
      flag_now x v e on =
          raised_flag (held z st₁ (flag (variables.Local x))) (held z st₂ (flag (variables.Local x))) (changed.raised x (below_of s.variables x v e) on)

      local_content : (x : ℕ) (v : Variable) → slice_get s.variables x ≡ Some v → changing (variables.Local x) ≡ true
          → is_content p (count n.blocks) (kind_of v) (value_now (variables.Local x)) ≡ true
      local_content x v e on =
          ap (λ o. is_content p (count n.blocks) (kind_in o) (value_now (variables.Local x))) (sym e) ∙ content_now (variables.Local x) (below_of s.variables x v e) on

      asked : (x : ℕ) (v : Variable) → slice_get s.variables x ≡ Some v → v.is_plain ≡ true → changing (variables.Local x) ≡ h.variables (variables.Local x)
      asked x v e is = so_changes (h.variables (variables.Local x)) (slice_get s.variables x) v e is

      local_goes : (x : ℕ) (v : Variable) → slice_get s.variables x ≡ Some v → v.is_plain ≡ true → h.variables (variables.Local x) ≡ true
          → LocalGoesOn p n.blocks v (c.world.locals x) (d.world.locals x)
      local_goes x v e is so =
          let on = asked x v e is ∙ so in
          let both = content_value p n.blocks (kind_of v) (value_now (variables.Local x)) (local_content x v e on) in
          record {
            held = value_now (variables.Local x);
            is_set = set_now x;
            same = local_on x on;
            stays = λ was. (flag_now x v e on).1 (sym (ap is_set_by (stands.locals x v e is (scoped x so)).same) ∙ was);
            fits = both.0;
            leads = both.1;
          }

      goes_on_so : GoesOn p s.variables cells h set used c d
      goes_on_so = record {
        good = good_now;
        blocks = behind.goes.blocks;
        renewed = λ k b o on is out. same_cell k b o is ∙ behind.goes.renewed k b o on is out;
        kept = λ k b o has off is. same_cell k b o is ∙ behind.goes.kept k b o has off is;
        globals = λ x v e is off. file_off x v e is (so_changes (h.variables (variables.Global x)) (slice_get p.globals x) v e is ∙ off);
        locals = λ x v e is off. local_off x (asked x v e is ∙ off);
        changed = local_goes;
        homes = λ x v e is. local_off x (not_plain (h.variables (variables.Local x)) (slice_get s.variables x) v e is);
        temporaries = λ n on. refl;
      }

      hidden_same : (i : ℕ) (o : ℤ) → ((x : ℕ) (v : Variable) → slice_get p.globals x ≡ Some v → v.is_plain ≡ true → global_home p x ≡ negsuc i → o ≡ pos 0 → ⊥)
          → memory_now.cells (negsuc i) o ≡ c.world.memory.cells (negsuc i) o
      hidden_same i o none =
          at_hidden p file_changes (λ x. value_now (variables.Global x)) (λ v. v ≡ c.world.memory.cells (negsuc i) o) n.cells i o
          (λ x e zero on. let at = plain_of_cell p i x e in absurd (none x at.variable at.is at.plain (home_of_cell p i x at) (zero_when o zero)))
          (λ other. behind.hidden i o)

      untold : SameUntold p s.variables cells c d
      untold = record {
        kinds = λ k b o none is. same_cell k b o is ∙ behind.absent k b o none is;
        hidden = hidden_same;
        temporaries = λ n. refl;
        others = λ x over. local_off x (ap (changes_plain (h.variables (variables.Local x))) (slice_get_past s.variables x over));
      }

      -- ---- the slots

      held_new : (a : Place) → IsIn z a → is_renewed renewed a ≡ false → held z new a ≡ held z st₂ a
      held_new = behind.comes.besides.places

      is_held : (x : code.Variable) → IsIn z (value x) → IsIn z (offset x) → (v : Variable) → found m p s cells h x ≡ Some v
          → IsHeldAs (kind_of v) (value_now x) (number_at z new (value x)) (number_at z new (offset x))
      is_held x there there' v e =
          subst (λ k. IsHeldAs k (value_now x) (number_at z new (value x)) (number_at z new (offset x))) (ap kind_in e)
          (held_so (kind_at x) (value_now x) (number_at z new (value x)) (number_at z new (offset x))
          (λ i. value_of (kind_at x) (number_in (sym (held_new (value x) there refl) i)) (number_in (sym (held_new (offset x) there' refl) i))))

      local_is : (x : ℕ) (v : Variable) → slice_get s.variables x ≡ Some v → v.is_plain ≡ true → changing (variables.Local x) ≡ true
          → LocalIs p n.blocks v (d.world.locals x) (number_at z new (value (variables.Local x))) (number_at z new (offset (variables.Local x)))
          (number_at z new (flag (variables.Local x)))
      local_is x v e is on =
          let there = below_of s.variables x v e in
          let same = ap number_in (held_new (flag (variables.Local x)) there refl) in
          record {
            content = value_now (variables.Local x);
            same = local_on x on ∙ ap (λ f. plain (value_now (variables.Local x)) (is_equal (pos 1) f)) (sym same);
            is = is_held (variables.Local x) there there v e;
            is_flag = subst IsFlag (sym same) (flag_now x v e on).0;
            fits = λ so. local_content x v e on;
            leads = (content_value p n.blocks (kind_of v) (value_now (variables.Local x)) (local_content x v e on)).1;
          }

      along : GoesAlong m p s cells h renewed fr scoped used c st stands d new
      along = record {
        size = behind.comes.besides.size ∙ changed.size;
        sorted = λ a there off. subst (HasSort false) (sym (held_new a there (not_renewed cells renewed (λ k on. (and_parts (cells.has_kind k) (h.kinds k) on).0) a off)))
            (changed.sorted a there (stands.sorted a there off));
        good = good_now;
        blocks = behind.goes.blocks;
        table = λ has. behind.comes.besides.table ∙ behind.table has;
        memories = record {
          numbers_are = λ k has. let is = behind.comes.memories.numbers_are k has in record {
            list = is.list;
            same = is.same;
            reads = with_read p file_changes (λ x. value_now (variables.Global x)) n (cell.Of k) _ is.reads;
          };
          pointers_are = λ has. let is = behind.comes.memories.pointers_are has in record {
            block_list = is.block_list;
            offset_list = is.offset_list;
            same_blocks = is.same_blocks;
            same_offsets = is.same_offsets;
            reads = with_read p file_changes (λ x. value_now (variables.Global x)) n cell.Ptr _ is.reads;
          };
        };
        same = λ a there off e. held_new a there e ∙ sym (changed.same a there off);
        global_changed = λ x v e is on. let there = below_of p.globals x v e in
            subst (λ w. IsHeldAs (kind_of v) w (number_at z new (value (variables.Global x))) (number_at z new (offset (variables.Global x))))
            (sym (at_home p file_changes (λ x. value_now (variables.Global x)) n.cells x v e is ∙ chosen (file_changes x) _ _ on)) (is_held (variables.Global x) there there v e);
        global_same = file_off;
        local_changed = local_is;
        local_kept = λ x v e off. local_off x off;
        temporaries = λ n on. refl;
      }

      stands_then : StandsFor p s cells fr used d new
      stands_then = stands_again m p s cells h renewed fr scoped used c st stands d new along

  pub comes_back : (j : ℕ) (e : End) → Seg olds j (havoc_word m p s cells h) st e
      → (new : State) × (goes_on new ≡ e) × ((d : CoreWorld) × GoesOn p s.variables cells h set used c d × SameUntold p s.variables cells c d × StandsFor p s cells fr used d new)
  comes_back j e run =
      let g = grown_from cells.has_blocks refl j (step.seq (step.change (changes_by z (change_of m p s cells h))) (renewal z (λ k. cells.has_kind k && h.kinds k) h.leave m)) e run in
      let x = changes_then g.2 in
      let y = memories_back m p s cells setting h.kinds h.leave set olds leaves c.world.memory stands.good (st₂ g.0 g.1 x.0 x.1) (changed g.0 g.1 x.0 x.1).size
      (stand₂ g.0 g.1 x.0 x.1) g.1 j e x.2 in
      (y.0, y.1, (d g.0 g.1 x.0 x.1 y.0 y.2.0 y.2.1, goes_on_so g.0 g.1 x.0 x.1 y.0 y.2.0 y.2.1, untold g.0 g.1 x.0 x.1 y.0 y.2.0 y.2.1, stands_then g.0 g.1 x.0 x.1 y.0 y.2.0 y.2.1))
