-- Memories that change: each gets any list of which is known that its values are in the range of their kind (C11 6.2.6.1p5) and that outside of some regions it
-- holds what it held.
use Rattle.std.specs.Prelude.{ℕ, zero, suc, Bool, true, false, if◌then◌else◌, List, [], ◌∷◌, ◌++◌, map}
use Rattle.wp_base.specs.declared.kinds.Kind.{Kind}
use Rattle.wp_base.specs.declared.kinds.CellKind.{CellKind}
use Rattle.wp_base.specs.declared.kinds.CellKind.TheVariants as cell
use Rattle.qed_terms.specs.Meaning as sense
use Rattle.qed_terms.specs.declared.head.Head.TheVariants as h
use Rattle.qed_terms.specs.declared.head.FormOp.TheVariants as form_op
use Rattle.qed_terms.specs.Tree.{Tree, node, two, three, trees_of, var}
use Rattle.memory_steps.specs.World.{memory_var}
use Rattle.memory_steps.specs.Step.{Change, keeps, fresh, Step, seq, change, remember}
use Rattle.memory_words.specs.Places.{Place, Sizes, numbers, blocks, offsets, changes_by}
use Rattle.memory_words.specs.Leaves.{leaf_name, memory_leaf, table_leaf, fact}
use Rattle.memory_words.specs.Regions.{RegionTree, of_kind, shapes_of, bounds_of}

-- the new list, in its facts
abbrev pub new_memory : Tree
new_memory = memory_var (leaf_name 0 0)

-- the regions that a renewal leaves open: of the blocks from these numbers on, and cells; or all
pub data Leave : Type 0 where
  of_all : Leave
  of_regions : (news : List Tree) (gs : List RegionTree) → Leave

abbrev pub frame_of : (news : List Tree) → List RegionTree → (old new : Tree) → Tree
frame_of news gs m n = node (h.Form (form_op.Frame (shapes_of news gs))) (trees_of (m ∷ n ∷ (bounds_of gs ++ news)))

-- by the kind of the cells
abbrev pub frames : Leave → CellKind → (old new : Tree) → List Tree
frames of_all k m n = []
frames (of_regions news gs) k m n = frame_of news (of_kind k gs) m n ∷ []

-- In the facts, level 0 is the new list, level 1 the present state, and level 2 the one before the renewal, which is remembered.
module _ (z : Sizes) (renewed : CellKind → Bool) (leave : Leave) where
  abbrev pub old_memory : Place → Tree
  old_memory a = memory_leaf z 2 a

  abbrev pub number_facts : Kind → List Tree
  number_facts k =
      node (h.Form (form_op.WellFormed (cell.Of k))) (two (table_leaf 1) new_memory) ∷ frames leave (cell.Of k) (old_memory (numbers k)) new_memory

  -- blocks have changed before
  abbrev pub pointer_facts : List Tree
  pointer_facts =
      node (h.Form (form_op.WellFormed cell.Ptr)) (three (table_leaf 1) (memory_leaf z 1 blocks) new_memory)
      ∷ (frames leave cell.Ptr (old_memory blocks) (memory_leaf z 1 blocks) ++ frames leave cell.Ptr (old_memory offsets) new_memory)

  module _ (m : sense.World) where
    abbrev pub changed_if : Bool → List Tree → Change
    changed_if true fs = fresh (map (fact m) fs)
    changed_if false fs = keeps

    abbrev pub first_change : Place → Change
    first_change (numbers k) = changed_if (renewed (cell.Of k)) (number_facts k)
    first_change blocks = changed_if (renewed cell.Ptr) []
    first_change a = keeps

    abbrev pub second_change : Place → Change
    second_change offsets = changed_if (renewed cell.Ptr) pointer_facts
    second_change a = keeps

    -- the regions are terms of level 2
    abbrev pub renewal : Step
    renewal = remember (seq (change (changes_by z first_change)) (change (changes_by z second_change)))
