-- Slots that stand for a world, where one cell and the memories of its kind hold a value.
use Rattle.std.proofs.Common.{◌≡◌, true, false, ℤ, pos, refl, sym, ap, ◌∙◌, subst}
use Rattle.std.proofs.lemmas.Bool.{false≢true}
use Rattle.wp_base.specs.declared.kinds.Kind.{Kind}
use Rattle.wp_base.specs.declared.kinds.CellKind.{CellKind}
use Rattle.wp_base.specs.declared.kinds.CellKind.TheVariants as cell
use Rattle.wp_base.specs.Blocks.{count, same_cell, is_cell}
use Rattle.typed_prog.specs.declared.operators.Variable.TheVariants as variables
use Rattle.c_runs.specs.Told.{Value}
use Rattle.c_runs.specs.Program.{Variable, Facts}
use Rattle.c_runs.specs.States.{Memory, with_memory, stored_in, global_home}
use Rattle.c_runs.specs.Scopes.{is_content}
use Rattle.c_runs.specs.CoreRun.{CoreWorld, in_world}
use Rattle.typed_memories.proofs.Tests.{on_test}
use Rattle.typed_memories.proofs.CellKinds.{same_kind, kind_same}
use Rattle.typed_memories.proofs.Stated.{content_has_form}
use Rattle.memory_steps.specs.State.{State}
use Rattle.memory_words.specs.Places.{Place, value, offset, flag, temporary, temporary_offset, numbers, blocks, offsets, IsIn, number_in, held, number_at}
use Rattle.memory_words.proofs.Lists.{found_below}
use Rattle.memory_words.specs.Shapes.{FileCells, Shape, sizes, kind_of}
use Rattle.memory_words.specs.Standing.{Temporaries, Frame, StandsFor, IsHeldAs, LocalIs, NumbersAre, PointersAre}
use Rattle.memory_words.proofs.Contents.{hidden_negative}
use Rattle.memory_words.specs.Puts.{counts, Keeps}
use Rattle.memory_statements.proofs.Reading.{hidden_same, other_reads, stored_good}

-- the places of the memories of a kind
abbrev pub IsMemoryOf : CellKind → Place → Type 0
IsMemoryOf k (numbers l) = k ≡ cell.Of l
IsMemoryOf k blocks = k ≡ cell.Ptr
IsMemoryOf k offsets = k ≡ cell.Ptr
IsMemoryOf k a = ⊥

module _ (p : Facts) (s : Shape) (cells : FileCells) (fr : Frame) (f : Temporaries) (c : CoreWorld) (st : State) (stands : StandsFor p s cells fr f c st)
    (k : CellKind) (b o : ℤ) (v : Value) (is : is_cell k c.world.memory.blocks b o ≡ true) (content : is_content p (count c.world.memory.blocks) k v ≡ true) where
  abbrev pub stored_memory : Memory
  stored_memory = stored_in b o v c.world.memory

  -- the new lists are what the cells of the kind hold
  pub record ListsAre (new : State) : Type 0 where
    pub numbers : (l : Kind) → k ≡ cell.Of l → NumbersAre stored_memory l (held (sizes p s) new (numbers l))
    pub pointers : k ≡ cell.Ptr → PointersAre stored_memory (held (sizes p s) new blocks) (held (sizes p s) new offsets)

  module _ (new : State) (keeps : Keeps (sizes p s) f (IsMemoryOf k) st new) (lists : ListsAre new) where
    -- a place that isn't one of these memories
    number_same : (a : Place) → IsIn (sizes p s) a → counts f a ≡ true → (IsMemoryOf k a → ⊥) → number_at (sizes p s) st a ≡ number_at (sizes p s) new a
    number_same a there counts other = ap number_in (sym (keeps.same a there counts other))

    other_numbers : (l : Kind) → same_cell k (cell.Of l) ≡ false → NumbersAre c.world.memory l (held (sizes p s) st (numbers l))
        → NumbersAre stored_memory l (held (sizes p s) new (numbers l))
    other_numbers l other are = record {
      list = are.list;
      same = keeps.same (numbers l) tt refl (λ e. false≢true (sym other ∙ kind_same k (cell.Of l) e)) ∙ are.same;
      reads = other_reads c.world.memory k b o v is (content_has_form p (count c.world.memory.blocks) k v content) (cell.Of l) other _ are.reads;
    }

    other_pointers : same_cell k cell.Ptr ≡ false → PointersAre c.world.memory (held (sizes p s) st blocks) (held (sizes p s) st offsets)
        → PointersAre stored_memory (held (sizes p s) new blocks) (held (sizes p s) new offsets)
    other_pointers other are = record {
      block_list = are.block_list;
      offset_list = are.offset_list;
      same_blocks = keeps.same blocks tt refl (λ e. false≢true (sym other ∙ kind_same k cell.Ptr e)) ∙ are.same_blocks;
      same_offsets = keeps.same offsets tt refl (λ e. false≢true (sym other ∙ kind_same k cell.Ptr e)) ∙ are.same_offsets;
      reads = other_reads c.world.memory k b o v is (content_has_form p (count c.world.memory.blocks) k v content) cell.Ptr other _ are.reads;
    }

    local_same : (y : Variable) (l : _) (x x' z z' u u' : ℤ) → x ≡ x' → z ≡ z' → u ≡ u' → LocalIs p c.world.memory.blocks y l x z u → LocalIs p c.world.memory.blocks y l x' z' u'
    local_same y l x x' z z' u u' d e g h =
        subst (LocalIs p c.world.memory.blocks y l x' z') g (subst (λ z. LocalIs p c.world.memory.blocks y l x' z u) e (subst (λ x. LocalIs p c.world.memory.blocks y l x z u) d h))

    pub stored_stands : StandsFor p s cells fr f (in_world c (with_memory stored_memory c.world)) new
    stored_stands = record {
      size = keeps.size;
      sorted = λ a there off. keeps.sorted a there (stands.sorted a there off);
      good = stored_good c.world.memory k b o v is p stands.good content;
      blocks_are = stands.blocks_are;
      table_is = λ has. keeps.table ∙ stands.table_is has;
      numbers_are = λ l has.
          on_test (same_cell k (cell.Of l)) (λ same. lists.numbers l (same_kind k (cell.Of l) same)) (λ other. other_numbers l other (stands.numbers_are l has));
      pointers_are = λ has.
          on_test (same_cell k cell.Ptr) (λ same. lists.pointers (same_kind k cell.Ptr same)) (λ other. other_pointers other (stands.pointers_are has));
      globals = λ x y e plain.
          let below = found_below p.globals x y e in
          subst (λ u. IsHeldAs (kind_of y) u (number_at (sizes p s) new (value (variables.Global x))) (number_at (sizes p s) new (offset (variables.Global x))))
          (sym (hidden_same c.world.memory k b o v is (global_home p x) (hidden_negative p x y e plain)))
          (subst (IsHeldAs (kind_of y) (c.world.memory.cells (global_home p x) (pos 0)) (number_at (sizes p s) new (value (variables.Global x))))
          (number_same (offset (variables.Global x)) below refl (λ h. h))
          (subst (λ z. IsHeldAs (kind_of y) (c.world.memory.cells (global_home p x) (pos 0)) z (number_at (sizes p s) st (offset (variables.Global x))))
          (number_same (value (variables.Global x)) below refl (λ h. h)) (stands.globals x y e plain)));
      locals = λ x y e plain scoped.
          let below = found_below s.variables x y e in
          local_same y (c.world.locals x) _ _ _ _ _ _ (number_same (value (variables.Local x)) below refl (λ h. h)) (number_same (offset (variables.Local x)) below refl (λ h. h))
          (number_same (flag (variables.Local x)) below refl (λ h. h)) (stands.locals x y e plain scoped);
      homes = λ x y e block scoped.
          let h = stands.homes x y e block scoped in
          (h.0, keeps.same (value (variables.Local x)) (found_below s.variables x y e) refl (λ h. h) ∙ h.1);
      living = stands.living;
      temporaries = λ n below used.
          let t = stands.temporaries n below used in
          record {
            is = subst (IsHeldAs (s.temp_kind n) (c.temps n) (number_at (sizes p s) new (temporary n))) (number_same (temporary_offset n) below used (λ h. h))
                (subst (λ z. IsHeldAs (s.temp_kind n) (c.temps n) z (number_at (sizes p s) st (temporary_offset n))) (number_same (temporary n) below used (λ h. h)) t.is);
            fits = t.fits;
          };
      unscoped = λ x below out.
          let h = stands.unscoped x below out in (
            h.0,
            keeps.same (value (variables.Local x)) below refl (λ h. h) ∙ h.1,
            keeps.same (offset (variables.Local x)) below refl (λ h. h) ∙ h.2,
            keeps.same (flag (variables.Local x)) below refl (λ h. h) ∙ h.3,
          );
    }
