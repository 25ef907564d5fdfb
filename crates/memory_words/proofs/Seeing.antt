-- What a body's annotations see of slots that stand for a world is the world's state.
use Rattle.std.proofs.Common.{◌≡◌, ℕ, pos, Bool, true, false, ◌||◌, if◌then◌else◌, [], ◌∷◌, Option, Some, None, slice_get, refl, sym, ap, ◌∙◌}
use Rattle.wp_base.specs.Blocks.{count}
use Rattle.typed_prog.specs.declared.operators.Variable as code
use Rattle.typed_prog.specs.declared.operators.Variable.TheVariants as variables
use Rattle.acsl_trees.specs.Tree as acsl
use Rattle.qed_terms.specs.Operators.{is_equal}
use Rattle.qed_terms.specs.Meaning as sense
use Rattle.qed_terms.specs.Meaning.{Values, meaning, value}
use Rattle.qed_terms.specs.Tree.{Tree}
use Rattle.c_runs.specs.TruthStates as labelled
use Rattle.c_runs.specs.TruthStates.{Value, number, pointer, number_of, block_of, offset_of, is_negative}
use Rattle.c_runs.specs.Program.{Variable, Facts}
use Rattle.c_runs.specs.States.{seen, block_of_local, hidden, held_by}
use Rattle.c_runs.specs.CoreRun.{CoreWorld}
use Rattle.acsl_encode.specs.Readings.{Common, home, absent}
use Rattle.acsl_encode.specs.Meaning.{SlotStands, SeenStands}
use Rattle.memory_steps.specs.State.{State}
use Rattle.memory_words.specs.Places.{value as value_place, offset, flag, number_in, number_at}
use Rattle.memory_words.specs.Leaves.{leaves_of}
use Rattle.memory_words.specs.Shapes.{FileCells, Shape, sizes, kind_of}
use Rattle.memory_words.specs.Readings.{Texts, slot_of_kind, slot_of_any, leaf, local_slot, body_slot, common_of, seen_in_body}
use Rattle.memory_words.specs.Standing.{Temporaries, Frame, AllLive, FileStands, StandsFor, LocalIs, IsHeldAs}
use Rattle.memory_words.specs.ReadingLaws.{BodiesSee}
use Rattle.memory_words.proofs.Contents.{layout_address, local_cell}
use Rattle.memory_words.proofs.Files.{kind_stands, any_stands, leaf_is, both_leaves, global_seen, all_seen}

module _ (m : sense.World) (p : Facts) (s : Shape) (cells : FileCells) (texts : Texts) (fr : Frame) (live : AllLive fr) (f : Temporaries) (c : CoreWorld) (st : State)
    (stands : StandsFor p s cells fr f c st) (a : acsl.Tree) where
  abbrev r : Common
  r = common_of p s cells texts a

  abbrev env : Values
  env = leaves_of (st ∷ [])

  abbrev q : labelled.State
  q = seen p c.world

  file : FileStands p s cells c.world.memory st
  file = record {
    good = stands.good;
    table_is = stands.table_is;
    numbers_are = stands.numbers_are;
    pointers_are = stands.pointers_are;
    globals = stands.globals;
  }

  -- ---- variables of the function

  module _ (x : ℕ) (v : Variable) (e : slice_get s.variables x ≡ Some v) where
    abbrev first : Tree
    first = leaf p s cells 0 (value_place (variables.Local x))

    abbrev second : Tree
    second = leaf p s cells 0 (offset (variables.Local x))

    plain_seen : v.is_plain ≡ true → fr.in_scope x ≡ true
        → SlotStands m r env (variables.Local x) (if v.has_value then slot_of_kind (kind_of v) first second else slot_of_any (kind_of v) first second) q
    plain_seen is declared = by v.has_value refl
      where
        l : LocalIs p c.world.memory.blocks v (c.world.locals x) (number_at (sizes p s) st (value_place (variables.Local x)))
            (number_at (sizes p s) st (offset (variables.Local x))) (number_at (sizes p s) st (flag (variables.Local x)))
        l = stands.locals x v e is declared

        at_home : q.home (variables.Local x) ≡ hidden p x
        at_home = ap (block_of_local p x) l.same

        same : q.cells (hidden p x) (pos 0) ≡ l.content
        same = local_cell p c.world.locals c.world.memory.cells x ∙ ap held_by l.same

        held_so : IsHeldAs (kind_of v) l.content (value m env first) (value m env second)
        held_so = both_leaves m p s cells texts c.world.memory c.world.locals st file [] a (kind_of v) l.content (value_place (variables.Local x)) (offset (variables.Local x)) l.is

        by : (b : Bool) → v.has_value ≡ b → SlotStands m r env (variables.Local x) (if b then slot_of_kind (kind_of v) first second else slot_of_any (kind_of v) first second) q
        by true t =
            kind_stands m r env q (variables.Local x) at_home p (count c.world.memory.blocks) refl (kind_of v) first second l.content same held_so
            (l.fits (ap (λ b. b || is_equal (pos 1) (number_at (sizes p s) st (flag (variables.Local x)))) t))
        by false t = any_stands m r env q (variables.Local x) at_home (kind_of v) first second l.content same held_so l.leads

    block_seen : v.is_plain ≡ false → fr.in_scope x ≡ true → SlotStands m r env (variables.Local x) (home first) q
    block_seen is declared =
        let h = stands.homes x v e is declared in
        let same : value m env first ≡ fr.homes x = leaf_is m p s cells texts c.world.memory c.world.locals st file [] a (value_place (variables.Local x)) ∙ ap number_in h.1 in (
          ap (block_of_local p x) h.0 ∙ sym same,
          ap is_negative same ∙ layout_address fr.table (fr.homes x) v.layout (stands.living x v e is declared (live x declared)),
        )

  -- leaves of a variable
  abbrev value_leaf : code.Variable → Tree
  value_leaf x = leaf p s cells 0 (value_place x)

  abbrev offset_leaf : code.Variable → Tree
  offset_leaf x = leaf p s cells 0 (offset x)

  local_seen : (x : ℕ) (o : Option Variable) → slice_get s.variables x ≡ o → fr.in_scope x ≡ true → SlotStands m r env (variables.Local x) (local_slot p s cells 0 x o) q
  local_seen x (Some v) e declared = by v.is_plain refl
    where
      by : (b : Bool) → v.is_plain ≡ b
          → SlotStands m r env (variables.Local x) (if b then (if v.has_value then slot_of_kind (kind_of v) (value_leaf (variables.Local x)) (offset_leaf (variables.Local x))
          else slot_of_any (kind_of v) (value_leaf (variables.Local x)) (offset_leaf (variables.Local x))) else home (value_leaf (variables.Local x))) q
      by true is = plain_seen x v e is declared
      by false is = block_seen x v e is declared
  local_seen x None e declared = tt

  variable_seen : (x : code.Variable) → SlotStands m r env x (body_slot p s cells 0 fr.in_scope x) q
  variable_seen (variables.Global x) = global_seen m p s cells texts c.world.memory c.world.locals st file [] a x (slice_get p.globals x) refl
  variable_seen (variables.Local x) = by (fr.in_scope x) refl
    where
      by : (b : Bool) → fr.in_scope x ≡ b → SlotStands m r env (variables.Local x) (if b then local_slot p s cells 0 x (slice_get s.variables x) else absent) q
      by true declared = local_seen x (slice_get s.variables x) refl declared
      by false declared = tt

  pub body_sees : SeenStands m r env (seen_in_body p s cells 0 fr.in_scope) q
  body_sees = all_seen m p s cells texts c.world.memory c.world.locals st file [] a (body_slot p s cells 0 fr.in_scope) variable_seen

pub bodies_see : BodiesSee
bodies_see m p s cells texts setting fr live f c st stands a = body_sees m p s cells texts fr live f c st stands a
