-- Slots stand for a world again, where those of variables that change stand for what these hold, and all else is as it was.
use Rattle.std.proofs.Common.{◌≡◌, ℕ, zero, suc, ◌<◌, Bool, true, false, ◌&&◌, ◌||◌, ℤ, pos, List, [], ◌∷◌, length, Some, slice_get, refl, sym, ap, ◌∙◌, subst, arith}
use Rattle.std.specs.Prelude.{int_le}
use Rattle.std.proofs.lemmas.Int.{ints}
use Rattle.std.proofs.lemmas.Option.{none-some}
use Rattle.wp_base.specs.declared.kinds.CellKind.{CellKind}
use Rattle.wp_base.specs.declared.kinds.CellKind.TheVariants as cell
use Rattle.wp_base.specs.Blocks.{Table, count}
use Rattle.c_kinds.proofs.Converting.{test_le, le_test}
use Rattle.typed_prog.specs.declared.operators.Variable as code
use Rattle.typed_prog.specs.declared.operators.Variable.TheVariants as variables
use Rattle.qed_terms.specs.Meaning as sense
use Rattle.qed_terms.specs.Operators.{is_equal}
use Rattle.c_runs.specs.TruthStates.{Value, number, pointer}
use Rattle.c_runs.specs.Program.{Variable, Facts}
use Rattle.c_runs.specs.States.{Local, plain, global_home}
use Rattle.c_runs.specs.Scopes.{is_content}
use Rattle.c_runs.specs.CoreRun.{CoreWorld}
use Rattle.goal_segments.specs.Told.{IsGood, IsFlag}
use Rattle.goal_segments.specs.Segments.{SameBlocks}
use Rattle.typed_memories.proofs.Tests.{on_test, not_both}
use Rattle.run_blocks.proofs.Good.{content_more}
use Rattle.memory_steps.specs.State.{State, HasSort}
use Rattle.memory_words.specs.Places.{Place, value, offset, flag, temporary, temporary_offset, number_in, IsIn, Sizes, slots_in, held, number_at}
use Rattle.memory_words.specs.Shapes.{FileCells, Shape, sizes, kind_of, is_pointer_cell, is_memory}
use Rattle.memory_words.specs.Standing.{IsHeldAs, LocalIs, TempIs, Frame, StandsFor}
use Rattle.memory_statements.specs.Renewed.{is_renewed, MemoriesStand}
use Rattle.program_steps.specs.Temporaries.{Temporaries}
use Rattle.memory_calls.specs.Havoc.{Havoc, changes, kind_in, found}
use Rattle.memory_calls.proofs.Changing.{is_changed, not_asked, not_plain}

pub below_of : {X : Type 0} (xs : List X) (i : ℕ) (x : X) → slice_get xs i ≡ Some x → i < length xs
below_of [] i x e = absurd (none-some x e)
below_of (y ∷ xs) zero x e = omega arith
below_of (y ∷ xs) (suc i) x e = let h = below_of xs i x e in omega (arith, h)

pub found_of : {X : Type 0} (xs : List X) (i : ℕ) → i < length xs → (x : X) × (slice_get xs i ≡ Some x)
found_of [] i h = absurd (omega (arith, h))
found_of (y ∷ xs) zero h = (y, refl)
found_of (y ∷ xs) (suc i) h = found_of xs i (omega (arith, h))

pub same_then : (t u w : Table) → SameBlocks t u → SameBlocks u w → SameBlocks t w
same_then t u w a b = record {
  live = λ x. b.live x ∙ a.live x;
  more = let x = test_le (count t) (count u) a.more in let y = test_le (count u) (count w) b.more in le_test (count t) (count w) (omega (arith, ints, x, y));
}

-- what holds the same is held as before; the second integer counts for pointers alone
pub held_same : (k : CellKind) (v v' : Value) (x x' y y' : ℤ) → v' ≡ v → x' ≡ x → (is_pointer_cell k ≡ true → y' ≡ y) → IsHeldAs k v x y → IsHeldAs k v' x' y'
held_same (cell.Of k) v v' x x' y y' e f g h = e ∙ h ∙ ap number (sym f)
held_same cell.Ptr v v' x x' y y' e f g h = e ∙ h ∙ (λ i. pointer (sym f i) (sym (g refl) i))

local_same : (p : Facts) (t t' : Table) (v : Variable) (l l' : Local) (x x' y y' f f' : ℤ) → int_le (count t) (count t') ≡ true → l' ≡ l → x' ≡ x
    → (is_pointer_cell (kind_of v) ≡ true → y' ≡ y) → f' ≡ f → LocalIs p t v l x y f → LocalIs p t' v l' x' y' f'
local_same p t t' v l l' x x' y y' f f' more e first second set is = record {
  content = is.content;
  same = e ∙ is.same ∙ ap (λ f. plain is.content (is_equal (pos 1) f)) (sym set);
  is = held_same (kind_of v) is.content is.content x x' y y' refl first second is.is;
  is_flag = subst IsFlag (sym set) is.is_flag;
  fits = λ h. content_more p (count t) (count t') more (kind_of v) is.content (is.fits (ap (λ f. v.has_value || is_equal (pos 1) f) (sym set) ∙ h));
  leads = is.leads;
}

module _ (m : sense.World) (p : Facts) (s : Shape) (cells : FileCells) (h : Havoc) (renewed : CellKind → Bool) (fr : Frame)
    (scoped : (x : ℕ) → h.variables (variables.Local x) ≡ true → fr.in_scope x ≡ true) (used : Temporaries) (c : CoreWorld) (st : State) (stands : StandsFor p s cells fr used c st)
    (d : CoreWorld) (new : State) where
  abbrev z : Sizes
  z = sizes p s

  abbrev first_at : State → code.Variable → ℤ
  first_at st x = number_at z st (value x)

  abbrev second_at : State → code.Variable → ℤ
  second_at st x = number_at z st (offset x)

  abbrev flag_at : State → ℕ → ℤ
  flag_at st x = number_at z st (flag (variables.Local x))

  -- what is so of the new world and the new slots
  pub record GoesAlong : Type 0 where
    pub size : length new.slots ≡ slots_in z
    pub sorted : (a : Place) → IsIn z a → is_memory cells a ≡ false → HasSort false (held z new a)
    pub good : IsGood p d.world.memory
    pub blocks : SameBlocks c.world.memory.blocks d.world.memory.blocks
    pub table : cells.has_blocks ≡ true → new.table ≡ d.world.memory.blocks
    pub memories : MemoriesStand p s cells d.world.memory new
    pub same : (a : Place) → IsIn z a → is_changed m p s cells h a ≡ false → is_renewed renewed a ≡ false → held z new a ≡ held z st a
    pub global_changed : (x : ℕ) (v : Variable) → slice_get p.globals x ≡ Some v → v.is_plain ≡ true → changes m p s cells h (variables.Global x) ≡ true
        → IsHeldAs (kind_of v) (d.world.memory.cells (global_home p x) (pos 0)) (first_at new (variables.Global x)) (second_at new (variables.Global x))
    pub global_same : (x : ℕ) (v : Variable) → slice_get p.globals x ≡ Some v → v.is_plain ≡ true → changes m p s cells h (variables.Global x) ≡ false
        → d.world.memory.cells (global_home p x) (pos 0) ≡ c.world.memory.cells (global_home p x) (pos 0)
    pub local_changed : (x : ℕ) (v : Variable) → slice_get s.variables x ≡ Some v → v.is_plain ≡ true → changes m p s cells h (variables.Local x) ≡ true
        → LocalIs p d.world.memory.blocks v (d.world.locals x) (first_at new (variables.Local x)) (second_at new (variables.Local x)) (flag_at new x)
    pub local_kept : (x : ℕ) (v : Variable) → slice_get s.variables x ≡ Some v → changes m p s cells h (variables.Local x) ≡ false → d.world.locals x ≡ c.world.locals x
    pub temporaries : (n : ℕ) → used n ≡ true → d.temps n ≡ c.temps n

  module _ (g : GoesAlong) where
    number_same : (a : Place) → IsIn z a → is_changed m p s cells h a ≡ false → is_renewed renewed a ≡ false → number_at z new a ≡ number_at z st a
    number_same a there off e = ap number_in (g.same a there off e)

    -- an offset changes with its variable
    offset_off : (x : code.Variable) → changes m p s cells h x ≡ false → is_changed m p s cells h (offset x) ≡ false
    offset_off x off = ap (λ b. b && is_pointer_cell (kind_in (found m p s cells h x))) off

    global_is : (x : ℕ) (v : Variable) → slice_get p.globals x ≡ Some v → v.is_plain ≡ true
        → IsHeldAs (kind_of v) (d.world.memory.cells (global_home p x) (pos 0)) (first_at new (variables.Global x)) (second_at new (variables.Global x))
    global_is x v e is =
        let there = below_of p.globals x v e in
        on_test (changes m p s cells h (variables.Global x)) (g.global_changed x v e is)
        (λ off. held_same (kind_of v) (c.world.memory.cells (global_home p x) (pos 0)) (d.world.memory.cells (global_home p x) (pos 0))
        (first_at st (variables.Global x)) (first_at new (variables.Global x)) (second_at st (variables.Global x)) (second_at new (variables.Global x)) (g.global_same x v e is off)
        (number_same (value (variables.Global x)) there off refl) (λ ptr. number_same (offset (variables.Global x)) there (offset_off (variables.Global x) off) refl)
        (stands.globals x v e is))

    local_is : (x : ℕ) (v : Variable) → slice_get s.variables x ≡ Some v → v.is_plain ≡ true → fr.in_scope x ≡ true
        → LocalIs p d.world.memory.blocks v (d.world.locals x) (first_at new (variables.Local x)) (second_at new (variables.Local x)) (flag_at new x)
    local_is x v e is scope =
        let there = below_of s.variables x v e in
        on_test (changes m p s cells h (variables.Local x)) (g.local_changed x v e is)
        (λ off. local_same p c.world.memory.blocks d.world.memory.blocks v (c.world.locals x) (d.world.locals x)
        (first_at st (variables.Local x)) (first_at new (variables.Local x)) (second_at st (variables.Local x)) (second_at new (variables.Local x)) (flag_at st x) (flag_at new x)
        g.blocks.more (g.local_kept x v e off) (number_same (value (variables.Local x)) there off refl)
        (λ ptr. number_same (offset (variables.Local x)) there (offset_off (variables.Local x) off) refl) (number_same (flag (variables.Local x)) there off refl)
        (stands.locals x v e is scope))

    temporary_is : (n : ℕ) → n < s.temporaries → used n ≡ true
        → TempIs p d.world.memory.blocks (s.temp_kind n) (d.temps n) (number_at z new (temporary n)) (number_at z new (temporary_offset n))
    temporary_is n there on =
        let t = stands.temporaries n there on in
        record {
          is = held_same (s.temp_kind n) (c.temps n) (d.temps n) (number_at z st (temporary n)) (number_at z new (temporary n)) (number_at z st (temporary_offset n))
              (number_at z new (temporary_offset n)) (g.temporaries n on) (number_same (temporary n) there refl refl) (λ ptr. number_same (temporary_offset n) there refl refl) t.is;
          fits = ap (is_content p (count d.world.memory.blocks) (s.temp_kind n)) (g.temporaries n on)
              ∙ content_more p (count c.world.memory.blocks) (count d.world.memory.blocks) g.blocks.more (s.temp_kind n) (c.temps n) t.fits;
        }

    off_unscoped : (x : ℕ) → fr.in_scope x ≡ false → changes m p s cells h (variables.Local x) ≡ false
    off_unscoped x out = not_asked (h.variables (variables.Local x)) (slice_get s.variables x)
        (on_test (h.variables (variables.Local x)) (λ on. not_both (fr.in_scope x) (scoped x on) out) (λ off. off))

    pub stands_again : StandsFor p s cells fr used d new
    stands_again = record {
      size = g.size;
      sorted = g.sorted;
      good = g.good;
      blocks_are = same_then fr.table c.world.memory.blocks d.world.memory.blocks stands.blocks_are g.blocks;
      table_is = g.table;
      numbers_are = g.memories.numbers_are;
      pointers_are = g.memories.pointers_are;
      globals = global_is;
      locals = local_is;
      homes = λ x v e is scope.
          let off = not_plain (h.variables (variables.Local x)) (slice_get s.variables x) v e is in let old = stands.homes x v e is scope in
          (g.local_kept x v e off ∙ old.0, g.same (value (variables.Local x)) (below_of s.variables x v e) off refl ∙ old.1);
      living = stands.living;
      temporaries = temporary_is;
      unscoped = λ x below out.
          let off = off_unscoped x out in let old = stands.unscoped x below out in let v = found_of s.variables x below in (
            g.local_kept x v.0 v.1 off ∙ old.0,
            g.same (value (variables.Local x)) below off refl ∙ old.1,
            g.same (offset (variables.Local x)) below (offset_off (variables.Local x) off) refl ∙ old.2,
            g.same (flag (variables.Local x)) below off refl ∙ old.3,
          );
    }
