-- Slots that stand for another memory, where the places of plain variables and of temporaries hold what they held.
use Rattle.std.proofs.Common.{◌≡◌, ℕ, ◌<◌, ℤ, pos, true, false, length, Some, slice_get, sym, ap, ◌∙◌, subst}
use Rattle.std.specs.Prelude.{int_le, int_lt}
use Rattle.std.proofs.lemmas.Bool.{false≢true, and_parts}
use Rattle.wp_base.specs.declared.kinds.CellKind.{CellKind}
use Rattle.wp_base.specs.declared.kinds.CellKind.TheVariants as cell
use Rattle.wp_base.specs.Blocks.{count, has_layout}
use Rattle.typed_prog.specs.declared.operators.Variable.TheVariants as variables
use Rattle.c_runs.specs.TruthStates.{Value, number, pointer, addresses, region}
use Rattle.c_runs.specs.Program.{Variable, Facts}
use Rattle.c_runs.specs.States.{World, home, unset, global_home}
use Rattle.c_runs.specs.Scopes.{is_content}
use Rattle.c_runs.specs.CoreRun.{CoreWorld, in_world}
use Rattle.goal_segments.specs.Told.{IsGood}
use Rattle.goal_segments.specs.Segments.{SameBlocks}
use Rattle.typed_memories.proofs.Tests.{both_so}
use Rattle.typed_memories.proofs.Tables.{below_more}
use Rattle.typed_memories.specs.Changes.{SameHidden}
use Rattle.memory_steps.specs.State.{State, HasSort, number as number_datum, nothing}
use Rattle.memory_words.specs.Places.{Place, value, offset, flag, temporary, temporary_offset, IsIn, held, number_in, number_at}
use Rattle.memory_words.proofs.Lists.{found_below}
use Rattle.memory_words.specs.Shapes.{FileCells, Shape, sizes, kind_of, is_memory}
use Rattle.memory_words.specs.Standing.{Temporaries, IsHeldAs, LocalIs, TempIs, Frame, StandsFor}
use Rattle.memory_words.proofs.Files.{held_same}
use Rattle.memory_statements.specs.Renewed.{MemoriesStand}
use Rattle.memory_words.proofs.Homes.{hidden_number}

-- ---- contents, where there are more blocks

pub content_more : (p : Facts) (n n' : ℤ) → int_le n n' ≡ true → (k : CellKind) (v : Value) → is_content p n k v ≡ true → is_content p n' k v ≡ true
content_more p n n' more (cell.Of k) (number z) h = h
content_more p n n' more (cell.Of k) (pointer b o) h = absurd (false≢true h)
content_more p n n' more (cell.Of k) (addresses s) h = absurd (false≢true h)
content_more p n n' more (cell.Of k) (region ks s) h = absurd (false≢true h)
content_more p n n' more cell.Ptr (number z) h = absurd (false≢true h)
content_more p n n' more cell.Ptr (pointer b o) h =
    let both = and_parts (int_le (pos 0) b) (int_lt b n) h in both_so (int_le (pos 0) b) (int_lt b n') both.0 (below_more b n n' both.1 more)
content_more p n n' more cell.Ptr (addresses s) h = absurd (false≢true h)
content_more p n n' more cell.Ptr (region ks s) h = absurd (false≢true h)

module _ (p : Facts) (s : Shape) (cells : FileCells) (fr : Frame) (f : Temporaries) (c : CoreWorld) (st : State) (stands : StandsFor p s cells fr f c st) (behind : Frame) (w : World)
    (new : State) where
  abbrev pub SameAt : Place → Type 0
  SameAt a = held (sizes p s) new a ≡ held (sizes p s) st a

  pub record Carries : Type 0 where
    pub good : IsGood p w.memory
    pub blocks : SameBlocks behind.table w.memory.blocks
    pub table : cells.has_blocks ≡ true → new.table ≡ w.memory.blocks
    pub memories : MemoriesStand p s cells w.memory new
    pub size : length new.slots ≡ length st.slots
    pub sorted : (a : Place) → IsIn (sizes p s) a → is_memory cells a ≡ false → HasSort false (held (sizes p s) new a)
    pub more : int_le (count c.world.memory.blocks) (count w.memory.blocks) ≡ true
    pub hidden : SameHidden c.world.memory w.memory
    pub globals : (x : ℕ) → x < length p.globals → SameAt (value (variables.Global x)) × SameAt (offset (variables.Global x))
    pub locals : (x : ℕ) (v : Variable) → slice_get s.variables x ≡ Some v → v.is_plain ≡ true → behind.in_scope x ≡ true
        → (fr.in_scope x ≡ true) × (w.locals x ≡ c.world.locals x) × SameAt (value (variables.Local x)) × SameAt (offset (variables.Local x)) × SameAt (flag (variables.Local x))
    pub temporaries : (n : ℕ) → n < s.temporaries → SameAt (temporary n) × SameAt (temporary_offset n)
    pub homes : (x : ℕ) (v : Variable) → slice_get s.variables x ≡ Some v → v.is_plain ≡ false → behind.in_scope x ≡ true
        → (w.locals x ≡ home (behind.homes x)) × (held (sizes p s) new (value (variables.Local x)) ≡ number_datum (behind.homes x))
    pub living : (x : ℕ) (v : Variable) → slice_get s.variables x ≡ Some v → v.is_plain ≡ false → behind.in_scope x ≡ true → behind.lives x ≡ true
        → has_layout behind.table (behind.homes x) v.layout ≡ true
    pub unscoped : (x : ℕ) → x < length s.variables → behind.in_scope x ≡ false
        → (w.locals x ≡ unset) × (held (sizes p s) new (value (variables.Local x)) ≡ nothing)
        × (held (sizes p s) new (offset (variables.Local x)) ≡ nothing) × (held (sizes p s) new (flag (variables.Local x)) ≡ nothing)

  number_same : (a : Place) → SameAt a → number_at (sizes p s) new a ≡ number_at (sizes p s) st a
  number_same a e = ap number_in e

  module _ (h : Carries) where
    global_is : (x : ℕ) (v : Variable) → slice_get p.globals x ≡ Some v → v.is_plain ≡ true
        → IsHeldAs (kind_of v) (w.memory.cells (global_home p x) (pos 0)) (number_at (sizes p s) new (value (variables.Global x)))
        (number_at (sizes p s) new (offset (variables.Global x)))
    global_is x v e plain =
        let i = hidden_number p x v e plain in
        let cells_same : w.memory.cells (global_home p x) (pos 0) ≡ c.world.memory.cells (global_home p x) (pos 0) =
        ap (λ b. w.memory.cells b (pos 0)) i.1 ∙ h.hidden i.0 (pos 0) ∙ ap (λ b. c.world.memory.cells b (pos 0)) (sym i.1) in
        let same = h.globals x (found_below p.globals x v e) in
        held_same (kind_of v) (w.memory.cells (global_home p x) (pos 0)) (number_at (sizes p s) st (value (variables.Global x)))
        (number_at (sizes p s) st (offset (variables.Global x)))
        (number_at (sizes p s) new (value (variables.Global x))) (number_at (sizes p s) new (offset (variables.Global x)))
        (number_same (value (variables.Global x)) same.0) (number_same (offset (variables.Global x)) same.1)
        (subst (λ y. IsHeldAs (kind_of v) y (number_at (sizes p s) st (value (variables.Global x))) (number_at (sizes p s) st (offset (variables.Global x)))) (sym cells_same)
        (stands.globals x v e plain))

    local_is : (x : ℕ) (v : Variable) → slice_get s.variables x ≡ Some v → v.is_plain ≡ true → behind.in_scope x ≡ true
        → LocalIs p w.memory.blocks v (w.locals x) (number_at (sizes p s) new (value (variables.Local x))) (number_at (sizes p s) new (offset (variables.Local x)))
        (number_at (sizes p s) new (flag (variables.Local x)))
    local_is x v e plain scoped =
        let same = h.locals x v e plain scoped in
        let was = stands.locals x v e plain same.0 in
        let made : LocalIs p w.memory.blocks v (w.locals x) (number_at (sizes p s) st (value (variables.Local x))) (number_at (sizes p s) st (offset (variables.Local x)))
        (number_at (sizes p s) st (flag (variables.Local x))) = record {
          content = was.content;
          same = same.1 ∙ was.same;
          is = was.is;
          is_flag = was.is_flag;
          fits = λ t. content_more p (count c.world.memory.blocks) (count w.memory.blocks) h.more (kind_of v) was.content (was.fits t);
          leads = was.leads;
        } in
        subst (λ x'. LocalIs p w.memory.blocks v (w.locals x) x' (number_at (sizes p s) new (offset (variables.Local x))) (number_at (sizes p s) new (flag (variables.Local x))))
        (sym (number_same (value (variables.Local x)) same.2))
        (subst (λ y'. LocalIs p w.memory.blocks v (w.locals x) (number_at (sizes p s) st (value (variables.Local x))) y' (number_at (sizes p s) new (flag (variables.Local x))))
        (sym (number_same (offset (variables.Local x)) same.3))
        (subst (λ z'. LocalIs p w.memory.blocks v (w.locals x) (number_at (sizes p s) st (value (variables.Local x))) (number_at (sizes p s) st (offset (variables.Local x))) z')
        (sym (number_same (flag (variables.Local x)) same.4)) made))

    temporary_is : (n : ℕ) → n < s.temporaries → f n ≡ true
        → TempIs p w.memory.blocks (s.temp_kind n) (c.temps n) (number_at (sizes p s) new (temporary n)) (number_at (sizes p s) new (temporary_offset n))
    temporary_is n l used =
        let was = stands.temporaries n l used in
        let same = h.temporaries n l in
        record {
          is = held_same (s.temp_kind n) (c.temps n) (number_at (sizes p s) st (temporary n)) (number_at (sizes p s) st (temporary_offset n)) (number_at (sizes p s) new (temporary n))
              (number_at (sizes p s) new (temporary_offset n)) (number_same (temporary n) same.0) (number_same (temporary_offset n) same.1) was.is;
          fits = content_more p (count c.world.memory.blocks) (count w.memory.blocks) h.more (s.temp_kind n) (c.temps n) was.fits;
        }

    pub carried : StandsFor p s cells behind f (in_world c w) new
    carried = record {
      size = h.size ∙ stands.size;
      sorted = h.sorted;
      good = h.good;
      blocks_are = h.blocks;
      table_is = h.table;
      numbers_are = h.memories.numbers_are;
      pointers_are = h.memories.pointers_are;
      globals = global_is;
      locals = local_is;
      homes = h.homes;
      living = h.living;
      temporaries = temporary_is;
      unscoped = h.unscoped;
    }
