-- Where slots stand for a world, the terms of expressions read what it holds.
use Rattle.std.proofs.Common.{◌≡◌, ℕ, ℤ, pos, true, false, ◌&&◌, if◌then◌else◌, List, ◌∷◌, Option, Some, None, is_some, slice_get, sym, ap, ap₂, ◌∙◌, subst}
use Rattle.std.specs.Prelude.{nat_lt}
use Rattle.std.proofs.lemmas.Bool.{false≢true, and_parts, ltb-true}
use Rattle.wp_base.specs.declared.kinds.CellKind.{CellKind}
use Rattle.wp_base.specs.declared.kinds.CellKind.TheVariants as cell
use Rattle.wp_base.specs.Blocks.{count, block_of, is_block, is_cell, has_layout}
use Rattle.typed_prog.specs.declared.operators.Variable as code
use Rattle.typed_prog.specs.declared.operators.Variable.TheVariants as variables
use Rattle.qed_terms.specs.Memory.{load}
use Rattle.qed_terms.specs.Meaning as sense
use Rattle.qed_terms.specs.Meaning.{Values, meaning, value}
use Rattle.qed_terms.specs.Tree.{Tree}
use Rattle.c_runs.specs.TruthStates.{Value, number, pointer, number_of, block_of as block_in, offset_of}
use Rattle.c_runs.specs.Program.{Variable, Facts}
use Rattle.c_runs.specs.States.{global_home, home_of, block_of_local, held_by}
use Rattle.c_runs.specs.Scopes.{is_content}
use Rattle.c_runs.specs.CoreRun.{CoreWorld}
use Rattle.c_runs.specs.Tests.{is_set_by}
use Rattle.typed_memories.proofs.Tests.{on_test, chosen}
use Rattle.value_terms.specs.Typed.{VariableIs}
use Rattle.value_terms.specs.Worlds.{HoldsKinds, Means, Stands, flag_of, has_value}
use Rattle.memory_steps.specs.State.{State}
use Rattle.memory_words.specs.Places.{Place, value as value_place, offset, flag, temporary, temporary_offset, numbers, blocks, offsets, number_in, memory_in, held, number_at}
use Rattle.memory_words.specs.Leaves.{leaves_of}
use Rattle.memory_words.specs.Shapes.{FileCells, Shape, sizes, kind_of}
use Rattle.memory_words.specs.Readings.{term_of_kind, leaf, memory_leaf, variable_term, reading}
use Rattle.memory_words.specs.Standing.{Temporaries, Frame, AllLive, StandsFor, IsHeldAs, TempIs}
use Rattle.memory_words.specs.Seen.{InSetting, temporary_kind, scope_at}
use Rattle.memory_words.specs.ReadingLaws.{ExpressionsRead}
use Rattle.memory_words.proofs.Leaves.{leaves_are_held}
use Rattle.memory_words.proofs.Contents.{content_is, number_of_kind, block_of_kind, offset_of_kind, flag_is, file_content, file_block}

some_same : {X : Type 0} (x y : X) → Some x ≡ Some y → x ≡ y
some_same x y e = ap (or_first x) e
  where
    or_first : {X : Type 0} → X → Option X → X
    or_first x (Some y) = y
    or_first x None = x

-- what leaves hold is what their terms mean
held_means : (m : sense.World) (env : Values) (k : CellKind) (v : Value) (t u : Tree) (x y : ℤ) → value m env t ≡ x → value m env u ≡ y → IsHeldAs k v x y
    → Means m env (term_of_kind k t u) v
held_means m env (cell.Of k) v t u x y first second h = h ∙ ap number (sym first)
held_means m env cell.Ptr v t u x y first second h = h ∙ ap₂ pointer (sym first) (sym second)

module _ (p : Facts) (s : Shape) (cells : FileCells) (fr : Frame) (live : AllLive fr) (f : Temporaries) (c : CoreWorld) (st : State) (stands : StandsFor p s cells fr f c st) where
  abbrev n : ℤ
  n = count c.world.memory.blocks

  abbrev first_at : Place → ℤ
  first_at a = number_at (sizes p s) st a

  -- ---- kinds

  local_is : (x : ℕ) (v : Variable) → slice_get s.variables x ≡ Some v → v.is_plain ≡ true → fr.in_scope x ≡ true → has_value v (c.world.locals x) ≡ true
      → is_content p n (kind_of v) (held_by (c.world.locals x)) ≡ true
  local_is x v e plain declared set =
      let l = stands.locals x v e plain declared in
      ap (λ y. is_content p n (kind_of v) (held_by y)) l.same ∙ l.fits (sym (ap (λ y. has_value v y) l.same) ∙ set)

  temp_of : (j : ℕ) (k : CellKind) → temporary_kind s f j ≡ Some k
      → TempIs p c.world.memory.blocks (s.temp_kind j) (c.temps j) (first_at (temporary j)) (first_at (temporary_offset j)) × (s.temp_kind j ≡ k)
  temp_of j k e = on_test (nat_lt j s.temporaries && f j)
      (λ t. let both = and_parts (nat_lt j s.temporaries) (f j) t in (
        stands.temporaries j (ltb-true j s.temporaries both.0) both.1,
        some_same (s.temp_kind j) k (sym (ap (λ b. if b then Some (s.temp_kind j) else None) t) ∙ e),
      ))
      (λ t. absurd (false≢true (ap (λ (o : Option CellKind). is_some o) (sym (ap (λ b. if b then Some (s.temp_kind j) else None) t) ∙ e))))

  home_is : (x : code.Variable) (v : Variable) → VariableIs p s.variables (scope_at s cells fr.in_scope f) x v → v.is_plain ≡ false
      → has_layout c.world.memory.blocks (home_of p c.world.locals x) v.layout ≡ true
  home_is (variables.Global x) v e is = file_block p x v e c.world.memory stands.good is
  home_is (variables.Local x) v e is =
      ap (λ l. has_layout c.world.memory.blocks (block_of_local p x l) v.layout) (stands.homes x v e.0 is e.1).0
      ∙ ap (λ y. is_block y (block_of v.layout)) (stands.blocks_are.live (fr.homes x)) ∙ stands.living x v e.0 is e.1 (live x e.1)

  pub holds_kinds : HoldsKinds p s.variables (scope_at s cells fr.in_scope f) c.temps c.world
  holds_kinds = record {
    locals = λ x v e declared plain set. local_is x v e plain declared set;
    globals = λ x v e plain. file_content p x v e c.world.memory stands.good plain;
    temporaries = λ j k e. let t = temp_of j k e in subst (λ l. is_content p n l (c.temps j) ≡ true) t.1 t.0.fits;
    homes = home_is;
    cells = λ k b o h. content_is p c.world.memory.blocks k (c.world.memory.cells b o) (stands.good.well.cells k b o h) (stands.good.pointers b o);
    short = stands.good.well.short;
  }

  -- ---- terms

  module _ (m : sense.World) (setting : InSetting m p s cells) (olds : List State) where
    abbrev env : Values
    env = leaves_of (st ∷ olds)

    leaf_is : (a : Place) → value m env (leaf p s cells 0 a) ≡ number_at (sizes p s) st a
    leaf_is a = (leaves_are_held m (st ∷ olds) 0).number (sizes p s) a

    list_is : (a : Place) → sense.memory (meaning m env (memory_leaf p s cells 0 a)) ≡ memory_in (held (sizes p s) st a)
    list_is a = (leaves_are_held m (st ∷ olds) 0).memory (sizes p s) a

    two_leaves : (k : CellKind) (v : Value) (a b : Place) → IsHeldAs k v (first_at a) (first_at b) → Means m env (term_of_kind k (leaf p s cells 0 a) (leaf p s cells 0 b)) v
    two_leaves k v a b h = held_means m env k v (leaf p s cells 0 a) (leaf p s cells 0 b) (first_at a) (first_at b) (leaf_is a) (leaf_is b) h

    variable_means : (x : code.Variable) (o : Option Variable) (v : Variable) (w : Value) → o ≡ Some v → IsHeldAs (kind_of v) w (first_at (value_place x)) (first_at (offset x))
        → Means m env (variable_term p s cells 0 x o) w
    variable_means x o v w e h = subst (λ o. Means m env (variable_term p s cells 0 x o) w) (sym e) (two_leaves (kind_of v) w (value_place x) (offset x) h)

    pub reading_stands : Stands m env (reading p s cells) p s.variables (scope_at s cells fr.in_scope f) c.temps c.world
    reading_stands = record {
      model = setting.model;
      locals = λ x v e declared plain set. let l = stands.locals x v e plain declared in
          variable_means (variables.Local x) (slice_get s.variables x) v (held_by (c.world.locals x)) e
          (subst (λ w. IsHeldAs (kind_of v) w (first_at (value_place (variables.Local x))) (first_at (offset (variables.Local x)))) (sym (ap held_by l.same)) l.is);
      flags = λ x v e declared plain. let l = stands.locals x v e plain declared in
          leaf_is (flag (variables.Local x)) ∙ flag_is (first_at (flag (variables.Local x))) l.is_flag ∙ sym (ap (λ y. flag_of (is_set_by y)) l.same);
      temporaries = λ j k e. two_leaves (s.temp_kind j) (c.temps j) (temporary j) (temporary_offset j) (temp_of j k e).0.is;
      globals = λ x v e plain. variable_means (variables.Global x) (slice_get p.globals x) v (c.world.memory.cells (global_home p x) (pos 0)) e (stands.globals x v e plain);
      homes = λ there x v e declared is. let h = stands.homes x v e is declared in
          leaf_is (value_place (variables.Local x)) ∙ ap number_in h.1 ∙ sym (ap (block_of_local p x) h.0);
      table = λ there. (leaves_are_held m (st ∷ olds) 0).table ∙ stands.table_is there;
      numbers = λ there k has b o so. let a = stands.numbers_are k has in
          ap (λ l. load l b o) (list_is (numbers k) ∙ ap memory_in a.same) ∙ ap number_of (a.reads b o ∙ chosen (is_cell (cell.Of k) c.world.memory.blocks b o) _ _ so)
          ∙ number_of_kind k (c.world.memory.cells b o);
      blocks = λ there has b o so. let a = stands.pointers_are has in
          ap (λ l. load l b o) (list_is blocks ∙ ap memory_in a.same_blocks) ∙ ap block_in (a.reads b o ∙ chosen (is_cell cell.Ptr c.world.memory.blocks b o) _ _ so)
          ∙ block_of_kind (c.world.memory.cells b o);
      offsets = λ there has b o so. let a = stands.pointers_are has in
          ap (λ l. load l b o) (list_is offsets ∙ ap memory_in a.same_offsets) ∙ ap offset_of (a.reads b o ∙ chosen (is_cell cell.Ptr c.world.memory.blocks b o) _ _ so)
          ∙ offset_of_kind (c.world.memory.cells b o);
    }

pub expressions_read : ExpressionsRead
expressions_read m p s cells setting fr live f c st stands olds =
    record { kinds = holds_kinds p s cells fr live f c st stands; stands = reading_stands p s cells fr live f c st stands m setting olds }
