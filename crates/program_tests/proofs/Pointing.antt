-- Where a temporary, a variable or a result is a pointer, blocks are spoken of.
use Rattle.std.proofs.Common.{◌≡◌, ℕ, Bool, true, false, if◌then◌else◌, List, [], ◌∷◌, ◌++◌, map, Option, Some, None, slice_get, refl, sym, subst, ◌∙◌, ◌⊎◌, inl, inr}
use Rattle.std.proofs.lemmas.Bool.{false≢true}
use Rattle.std.proofs.lemmas.Option.{same_Some}
use Rattle.wp_base.specs.declared.kinds.CellKind.{CellKind}
use Rattle.wp_base.specs.declared.kinds.CellKind.TheVariants as cell
use Rattle.typed_prog.specs.declared.types.CoreType.{CoreType}
use Rattle.typed_prog.specs.Tree as t
use Rattle.c_runs.specs.Program.{Variable, Facts}
use Rattle.c_runs.specs.Tree as core
use Rattle.c_runs.specs.Tree.{Goal, Steps}
use Rattle.value_terms.specs.Typed.{kind_given}
use Rattle.typed_memories.proofs.Tests.{on_test}
use Rattle.memory_words.specs.Shapes.{FileCells, kind_of, is_pointer_cell}
use Rattle.program_cells.specs.Parts.{blocks, of_kind, AreKnown, type_parts}
use Rattle.program_cells.specs.Trees.{Declared}
use Rattle.program_cells.specs.Programs.{if_pointer, variables_parts, op_parts, value_parts, values_parts, value_parts_if, goal_parts, place_parts, step_parts, steps_parts, loop_parts}
use Rattle.temporary_kinds.specs.Kinds.{or_else, only_if, value_kind, values_kind, given_kind, goal_kind, step_kind, steps_kind}
use Rattle.temporary_kinds.proofs.Counted.{either, this_one}
use Rattle.memory_fitting.proofs.Typing.{known_left, known_right, blocks_known}
use Rattle.memory_fitting.proofs.Variables.{variable_known}
use Rattle.c_runs.specs.Objects.{cell_of}

-- no pointer
pub no_pointer_cell : (k : CellKind) → (k ≡ cell.Ptr → ⊥) → is_pointer_cell k ≡ false
no_pointer_cell (cell.Of k) h = refl
no_pointer_cell cell.Ptr h = absurd (h refl)

none_kind : None ≡ Some cell.Ptr → ⊥
none_kind e = absurd cc

module _ (p : Facts) (cells : FileCells) where
  -- ---- types

  type_known : (type : CoreType) → kind_given type ≡ cell.Ptr → AreKnown cells (type_parts p type) → cells.has_blocks ≡ true
  type_known type e known = by type.stars type.count e known where
    by : (stars : List Bool) (count : Option ℕ) → kind_given (record type { stars = stars; count = count }) ≡ cell.Ptr
        → AreKnown cells (type_parts p (record type { stars = stars; count = count })) → cells.has_blocks ≡ true
    by (star ∷ stars) None e known = blocks_known cells _ known
    by [] None e known = absurd cc
    by [] (Some n) e known = absurd cc
    by (star ∷ stars) (Some n) e known = absurd cc

  module _ (xs : List Variable) where
    typed_known : (e : t.Value) → kind_given (t.type_of e) ≡ cell.Ptr → AreKnown cells (value_parts p xs e) → cells.has_blocks ≡ true
    typed_known (t.typed node type line) e known = type_known type e (known_left cells (type_parts p type) _ known)

    -- a temporary that counts as a pointer is among what these tell
    abbrev Tells : (ℕ → Option CellKind) → Type 0
    Tells kinds = (n : ℕ) → kinds n ≡ Some cell.Ptr → cells.has_blocks ≡ true

    tells_either : (g h : ℕ → Option CellKind) → Tells g → Tells h → Tells (λ n. or_else (g n) (h n))
    tells_either g h first second n is = by (either (g n) (h n) cell.Ptr is) where
      by : (g n ≡ Some cell.Ptr) ⊎ (h n ≡ Some cell.Ptr) → cells.has_blocks ≡ true
      by (inl here) = first n here
      by (inr there) = second n there

    tells_one : (m : ℕ) (k : CellKind) → (k ≡ cell.Ptr → cells.has_blocks ≡ true) → Tells (λ n. only_if m n (Some k))
    tells_one m k h n is = let one = this_one m n (Some k) cell.Ptr is in h (same_Some k cell.Ptr one.1)

    -- ---- expressions

    mutual
      value_tells : (e : t.Value) → AreKnown cells (value_parts p xs e) → Tells (value_kind e)
      value_tells (t.typed (t.temporary m) type line) known n is =
          tells_one m (kind_given type) (λ e. type_known type e (known_left cells (type_parts p type) [] known)) n is
      value_tells (t.typed (t.apply o es) type line) known n is =
          values_tell es (known_right cells (op_parts p xs type o) (values_parts p xs es) (known_right cells (type_parts p type) (op_parts p xs type o ++ values_parts p xs es) known)) n is
      value_tells (t.typed (t.constant z) type line) known n is = absurd cc
      value_tells (t.typed t.null type line) known n is = absurd cc
      value_tells (t.typed (t.logic c a b) type line) known n is = absurd cc
      value_tells (t.typed (t.choose c a b) type line) known n is = absurd cc
      value_tells (t.typed (t.effect e es) type line) known n is = absurd cc

      values_tell : (es : t.Values) → AreKnown cells (values_parts p xs es) → Tells (values_kind es)
      values_tell t.stop known n is = absurd cc
      values_tell (t.more e es) known n is =
          tells_either (value_kind e) (values_kind es) (value_tells e (known_left cells (value_parts p xs e) (values_parts p xs es) known))
          (values_tell es (known_right cells (value_parts p xs e) (values_parts p xs es) known)) n is

    given_tells : (o : Option t.Value) → AreKnown cells (value_parts_if p xs o) → Tells (given_kind o)
    given_tells None known n is = absurd cc
    given_tells (Some e) known n is = value_tells e known n is

    -- ---- statements, where functions give these

    module _ (results : ℕ → Option CellKind) (give : Tells results) (d : Declared) where
      goal_tells : (to : Goal) (f : ℕ) → AreKnown cells (goal_parts p xs to) → Tells (goal_kind to (results f))
      goal_tells core.nowhere f known n is = absurd cc
      goal_tells (core.temporary m) f known n is = let one = this_one m n (results f) cell.Ptr is in give f one.1
      goal_tells (core.place cs type l path es) f known n is =
          values_tell es (known_right cells (place_parts p xs path (cell_of type)) (values_parts p xs es) known) n is
      goal_tells (core.variable x) f known n is = absurd cc

      mutual
        step_tells : (a : core.Step) → AreKnown cells (step_parts p xs d a) → Tells (step_kind results a)
        step_tells (core.set cs m e) known = tells_either (value_kind e) (λ n. only_if m n (Some (kind_given (t.type_of e)))) (value_tells e known)
            (tells_one m (kind_given (t.type_of e)) (λ is. typed_known e is known))
        step_tells (core.store cs type l path es) known = values_tell es (known_right cells (place_parts p xs path (cell_of type)) (values_parts p xs es) known)
        step_tells (core.start cs x e) known = value_tells e known
        step_tells (core.call cs to f l es) known =
            tells_either (values_kind es) (goal_kind to (results f)) (values_tell es (known_right cells (goal_parts p xs to) (values_parts p xs es) known))
            (goal_tells to f (known_left cells (goal_parts p xs to) (values_parts p xs es) known))
        step_tells (core.branch cs e a b) known =
            let rest = known_right cells (value_parts p xs e) (steps_parts p xs d a ++ steps_parts p xs d b) known in
            tells_either (value_kind e) (λ n. or_else (steps_kind results a n) (steps_kind results b n))
            (value_tells e (known_left cells (value_parts p xs e) (steps_parts p xs d a ++ steps_parts p xs d b) known))
            (tells_either (steps_kind results a) (steps_kind results b) (steps_tell a (known_left cells (steps_parts p xs d a) (steps_parts p xs d b) rest))
            (steps_tell b (known_right cells (steps_parts p xs d a) (steps_parts p xs d b) rest)))
        step_tells (core.repeat l ss) known = steps_tell ss (known_right cells (loop_parts p xs d l) (steps_parts p xs d ss) known)
        step_tells (core.around ss) known = steps_tell ss known
        step_tells (core.exit k) known = λ n is. absurd (none_kind is)
        step_tells (core.give cs e) known = given_tells e known
        step_tells (core.claim c) known = λ n is. absurd (none_kind is)
        step_tells (core.scope ys ss) known = steps_tell ss known

        pub steps_tell : (ss : Steps) → AreKnown cells (steps_parts p xs d ss) → Tells (steps_kind results ss)
        steps_tell core.end known = λ n is. absurd (none_kind is)
        steps_tell (core.then_ a ss) known =
            tells_either (step_kind results a) (steps_kind results ss) (step_tells a (known_left cells (step_parts p xs d a) (steps_parts p xs d ss) known))
            (steps_tell ss (known_right cells (step_parts p xs d a) (steps_parts p xs d ss) known))

  -- ---- variables

  module _ (xs : List Variable) (known : AreKnown cells (variables_parts xs)) (none : cells.has_blocks ≡ false) (x : ℕ) (v : Variable) (found : slice_get xs x ≡ Some v) where
    no_home : v.is_plain ≡ false → ⊥
    no_home home =
        false≢true (sym none ∙ blocks_known cells (map of_kind v.layout.cells)
        (subst (λ b. AreKnown cells (if b then if_pointer (kind_of v) else blocks ∷ map of_kind v.layout.cells)) home (variable_known cells xs known x v found)))

    pub all_plain : v.is_plain ≡ true
    all_plain = on_test v.is_plain (λ t. t) (λ t. absurd (no_home t))

    pub no_pointers : is_pointer_cell (kind_of v) ≡ false
    no_pointers = no_pointer_cell (kind_of v) (λ e. false≢true (sym none ∙ blocks_known cells []
        (subst (λ k. AreKnown cells (if_pointer k)) e
        (subst (λ b. AreKnown cells (if b then if_pointer (kind_of v) else blocks ∷ map of_kind v.layout.cells)) all_plain (variable_known cells xs known x v found)))))
