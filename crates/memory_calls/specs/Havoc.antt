-- What a loop's turns or a call may have changed (ACSL 2.3.2, 2.4.2): any number of blocks was made and has ended, variables hold any values of their kinds,
-- and memories are renewed outside of what they keep.
use Rattle.std.specs.Prelude.{Bool, true, false, ◌&&◌, if◌then◌else◌, pos, List, [], ◌∷◌, map, Option, Some, None, slice_get}
use Rattle.wp_base.specs.declared.kinds.CellKind.{CellKind}
use Rattle.wp_base.specs.declared.kinds.CellKind.TheVariants as cell
use Rattle.c_kinds.specs.Models.{low, high}
use Rattle.typed_prog.specs.declared.operators.Variable.{Variable}
use Rattle.typed_prog.specs.declared.operators.Variable.TheVariants as variables
use Rattle.qed_terms.specs.Meaning as sense
use Rattle.qed_terms.specs.Tree.{Tree, num, var, at_most, less}
use Rattle.c_runs.specs.Program as program
use Rattle.c_runs.specs.Program.{Facts}
use Rattle.memory_steps.specs.World.{count_of}
use Rattle.memory_steps.specs.Step.{Change, keeps, fresh, raised, Step, skip, seq, change, grown}
use Rattle.memory_words.specs.Places.{Place, value, offset, flag, changes_by}
use Rattle.memory_words.specs.Leaves.{leaf_name, table_leaf, fact}
use Rattle.memory_words.specs.Shapes.{FileCells, Shape, sizes, kind_of, is_pointer_cell}
use Rattle.memory_words.specs.Renewal.{Leave, renewal}

-- which variables that no pointer leads to change, of which kinds memories are renewed, and what of them
pub record Havoc : Type 0 where
  pub variables : Variable → Bool
  pub kinds : CellKind → Bool
  pub leave : Leave

-- ---- a value of a kind, in its facts: level 0 is the new value, level 1 the present state

abbrev pub new_number : Tree
new_number = var (leaf_name 0 0)

-- an integer is in its range; a pointer leads to a block that was made, or is null
abbrev pub range_facts : Facts → CellKind → List Tree
range_facts p (cell.Of k) = at_most (num (low p.model k)) new_number ∷ at_most new_number (num (high p.model k)) ∷ []
range_facts p cell.Ptr = at_most (num (pos 0)) new_number ∷ less new_number (count_of (table_leaf 1)) ∷ []

module _ (m : sense.World) (p : Facts) where
  abbrev pub first_change : (changes : Bool) → CellKind → Change
  first_change true k = fresh (map (fact m) (range_facts p k))
  first_change false k = keeps

  -- a pointer's offset is any
  abbrev pub second_change : (changes : Bool) → CellKind → Change
  second_change true k = if is_pointer_cell k then fresh [] else keeps
  second_change false k = keeps

  -- what was set stays so
  abbrev pub flag_change : (changes : Bool) → Change
  flag_change true = raised
  flag_change false = keeps

-- a variable that no pointer leads to, if it changes
abbrev pub changes_plain : (changes : Bool) → Option program.Variable → Bool
changes_plain b (Some v) = b && v.is_plain
changes_plain b None = false

abbrev pub kind_in : Option program.Variable → CellKind
kind_in (Some v) = kind_of v
kind_in None = cell.Ptr

module _ (m : sense.World) (p : Facts) (s : Shape) (cells : FileCells) (h : Havoc) where
  abbrev pub found : Variable → Option program.Variable
  found (variables.Global x) = slice_get p.globals x
  found (variables.Local x) = slice_get s.variables x

  abbrev pub changes : Variable → Bool
  changes x = changes_plain (h.variables x) (found x)

  -- variables of the file are set all the time
  abbrev pub change_of : Place → Change
  change_of (value x) = first_change m p (changes x) (kind_in (found x))
  change_of (offset x) = second_change m p (changes x) (kind_in (found x))
  change_of (flag (variables.Local x)) = flag_change m p (changes (variables.Local x))
  change_of a = keeps

  abbrev pub grown_if : Bool → Step
  grown_if true = grown
  grown_if false = skip

  abbrev pub havoc_word : Step
  havoc_word = seq (grown_if cells.has_blocks) (seq (change (changes_by (sizes p s) change_of)) (renewal (sizes p s) (λ k. cells.has_kind k && h.kinds k) h.leave m))
