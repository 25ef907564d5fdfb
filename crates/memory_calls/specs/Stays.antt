-- What stays by the sets of behaviors, where a loop's turns or a call may have changed more (ACSL 2.3.3): memories outside of the set of each behavior that is
-- assumed, and variables of the file that it doesn't name. The last state that is remembered is the one before.
use Rattle.std.specs.Prelude.{ℕ, suc, ◌&&◌, if◌then◌else◌, List, [], ◌∷◌, ◌++◌, map, Option, Some, None}
use Rattle.wp_base.specs.declared.kinds.CellKind.{CellKind}
use Rattle.wp_base.specs.declared.kinds.CellKind.TheVariants as cell
use Rattle.typed_prog.specs.declared.operators.Variable.TheVariants as variables
use Rattle.acsl_trees.specs.Tree as acsl
use Rattle.acsl_encode.specs.Readings as annotation
use Rattle.acsl_encode.specs.Told.{every_cell, those}
use Rattle.qed_terms.specs.Tree.{Tree, equal, imp_of}
use Rattle.c_runs.specs.Program.{Variable, Behavior, Facts}
use Rattle.memory_words.specs.Places.{value, offset, numbers, blocks, offsets}
use Rattle.memory_words.specs.Shapes.{FileCells, Shape, kind_of, is_pointer_cell}
use Rattle.memory_words.specs.Readings.{Texts, leaf, memory_leaf}
use Rattle.memory_words.specs.Regions.{regions_in}
use Rattle.memory_words.specs.Renewal.{Leave, of_regions, frames}
use Rattle.memory_words.specs.Sets.{lacks}
use Rattle.memory_calls.specs.Havoc.{Havoc, changes_plain}

module _ (p : Facts) (s : Shape) (cells : FileCells) (texts : Texts) where
  -- ---- memories

  abbrev pub frame_trees : Leave → CellKind → List Tree
  frame_trees w (cell.Of k) = frames w (cell.Of k) (memory_leaf p s cells 1 (numbers k)) (memory_leaf p s cells 0 (numbers k))
  frame_trees w cell.Ptr =
      frames w cell.Ptr (memory_leaf p s cells 1 blocks) (memory_leaf p s cells 0 blocks) ++ frames w cell.Ptr (memory_leaf p s cells 1 offsets) (memory_leaf p s cells 0 offsets)

  abbrev pub all_frames : Leave → List CellKind → List Tree
  all_frames w [] = []
  all_frames w (k ∷ ks) = frame_trees w k ++ all_frames w ks

  -- ---- variables of the file

  abbrev pub same_places : CellKind → (number : ℕ) → List Tree
  same_places k x =
      equal (leaf p s cells 0 (value (variables.Global x))) (leaf p s cells 1 (value (variables.Global x)))
      ∷ (if is_pointer_cell k then equal (leaf p s cells 0 (offset (variables.Global x))) (leaf p s cells 1 (offset (variables.Global x))) ∷ [] else [])

  abbrev pub variable_stays : Option (List acsl.Tree) → Havoc → (number : ℕ) → Variable → List Tree
  variable_stays set h x v = if changes_plain (h.variables (variables.Global x)) (Some v) && lacks set (variables.Global x) then same_places (kind_of v) x else []

  abbrev pub stays_from : Option (List acsl.Tree) → Havoc → (number : ℕ) → List Variable → List Tree
  stays_from set h x [] = []
  stays_from set h x (v ∷ vs) = variable_stays set h x v ++ stays_from set h (suc x) vs

  -- ---- by each behavior, where it is assumed

  abbrev pub clause_stays : (assumed : Tree) → (acsl.Tree → annotation.Reading) → (since : Tree) → Havoc → Option (List acsl.Tree) → List Tree
  clause_stays a r e h None = []
  clause_stays a r e h (Some as_) =
      map (imp_of a) (all_frames (of_regions (e ∷ []) (regions_in r as_)) (those (λ k. cells.has_kind k && h.kinds k) every_cell) ++ stays_from (Some as_) h 0 p.globals)

  abbrev pub all_stay : (acsl.Tree → annotation.Reading) → (assumed : Behavior → Tree) → (since : Tree) → Havoc → List Behavior → List Tree
  all_stay r a e h [] = []
  all_stay r a e h (b ∷ bs) = clause_stays (a b) r e h b.assigns ++ all_stay r a e h bs
