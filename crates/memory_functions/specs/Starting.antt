-- Where the word of a function starts: variables of the file, parameters and memories hold anything for which the file's blocks are there, values are in their
-- ranges and the function's requirements hold; all other slots are 0, and so are the flags of variables that are not set yet.
use Rattle.std.specs.Prelude.{◌≡◌, ℕ, zero, suc, Bool, true, false, ◌&&◌, if◌then◌else◌, ℤ, pos, List, [], ◌∷◌, ◌++◌, map, length, Option, Some, None, slice_get}
use Rattle.wp_base.specs.declared.kinds.CellKind.{CellKind}
use Rattle.wp_base.specs.declared.kinds.CellKind.TheVariants as cell
use Rattle.wp_base.specs.declared.kinds.Layout.{Layout}
use Rattle.c_kinds.specs.Models.{low, high}
use Rattle.typed_prog.specs.declared.operators.Variable.TheVariants as variables
use Rattle.acsl_encode.specs.Told.{every_cell, those}
use Rattle.qed_terms.specs.Meaning as sense
use Rattle.qed_terms.specs.declared.head.Head.TheVariants as h
use Rattle.qed_terms.specs.declared.head.FormOp.TheVariants as form_op
use Rattle.qed_terms.specs.Tree.{Tree, node, two, three, num, at_most, less}
use Rattle.c_runs.specs.Program.{Variable, Claim, Behavior, Function, Facts}
use Rattle.c_runs.specs.States.{global_home}
use Rattle.c_runs.specs.Tree.{Steps}
use Rattle.memory_steps.specs.World.{count_of}
use Rattle.memory_steps.specs.Laws.{Origin, own, fixed, Start}
use Rattle.memory_words.specs.Places.{Place, value, offset, flag, numbers, blocks, offsets, places}
use Rattle.memory_words.specs.Leaves.{table_leaf, claim}
use Rattle.memory_words.specs.Shapes.{FileCells, Shape, sizes, kind_of, is_pointer_cell, is_memory}
use Rattle.memory_words.specs.Readings.{Texts, leaf, memory_leaf, entry_reading}
use Rattle.memory_words.specs.Sets.{claim_tree, assumed_tree, under}
use Rattle.memory_functions.specs.GoalFunctions.{is_param}

-- ---- slots

abbrev pub own_if : Bool → Origin
own_if true = own
own_if false = fixed (pos 0)

abbrev pub set_if : Bool → Origin
set_if true = fixed (pos 1)
set_if false = fixed (pos 0)

abbrev pub is_plain_in : Option Variable → Bool
is_plain_in (Some v) = v.is_plain
is_plain_in None = false

abbrev pub is_pointer_in : Option Variable → Bool
is_pointer_in (Some v) = is_pointer_cell (kind_of v)
is_pointer_in None = false

module _ (p : Facts) (s : Shape) (cells : FileCells) (params : ℕ) where
  abbrev pub origin_of : Place → Origin
  origin_of (value (variables.Global x)) = own_if (is_plain_in (slice_get p.globals x))
  origin_of (value (variables.Local x)) = own_if (is_param params x)
  origin_of (offset (variables.Global x)) = own_if (is_plain_in (slice_get p.globals x) && is_pointer_in (slice_get p.globals x))
  origin_of (offset (variables.Local x)) = own_if (is_param params x && is_pointer_in (slice_get s.variables x))
  origin_of (flag (variables.Global x)) = set_if (is_plain_in (slice_get p.globals x))
  origin_of (flag (variables.Local x)) = set_if (is_param params x)
  origin_of a = own_if (is_memory cells a)

  abbrev pub origins_of : List Origin
  origins_of = map origin_of (places (sizes p s))

-- ---- what is known

module _ (m : sense.World) (p : Facts) (s : Shape) (cells : FileCells) (texts : Texts) (params : ℕ) where
  -- the blocks of the file's variables are there, and as many numbers are used
  abbrev pub has_tree : (block : ℤ) → Layout → Tree
  has_tree b l = node (h.Form (form_op.Has l)) (two (table_leaf 0) (num b))

  abbrev pub home_trees : (number : ℕ) → List Variable → List Tree
  home_trees x [] = []
  home_trees x (v ∷ vs) = (if v.is_plain then [] else has_tree (global_home p x) v.layout ∷ []) ++ home_trees (suc x) vs

  abbrev pub homes_in : List Variable → ℕ
  homes_in [] = 0
  homes_in (v ∷ vs) = if v.is_plain then homes_in vs else suc (homes_in vs)

  abbrev pub count_tree : Tree
  count_tree = at_most (num (pos (suc (homes_in p.globals)))) (count_of (table_leaf 0))

  abbrev pub formed_tree : CellKind → Tree
  formed_tree (cell.Of k) = node (h.Form (form_op.WellFormed (cell.Of k))) (two (table_leaf 0) (memory_leaf p s cells 0 (numbers k)))
  formed_tree cell.Ptr =
      node (h.Form (form_op.WellFormed cell.Ptr)) (three (table_leaf 0) (memory_leaf p s cells 0 blocks) (memory_leaf p s cells 0 offsets))

  abbrev pub block_trees : (has_blocks : Bool) → List Tree
  block_trees true = home_trees 0 p.globals ++ (count_tree ∷ map formed_tree (those cells.has_kind every_cell))
  block_trees false = []

  abbrev pub range_trees : CellKind → (first : Place) → List Tree
  range_trees (cell.Of k) a = at_most (num (low p.model k)) (leaf p s cells 0 a) ∷ at_most (leaf p s cells 0 a) (num (high p.model k)) ∷ []
  range_trees cell.Ptr a = at_most (num (pos 0)) (leaf p s cells 0 a) ∷ less (leaf p s cells 0 a) (count_of (table_leaf 0)) ∷ []

  abbrev pub file_ranges : (number : ℕ) → List Variable → List Tree
  file_ranges x [] = []
  file_ranges x (v ∷ vs) = (if v.is_plain then range_trees (kind_of v) (value (variables.Global x)) else []) ++ file_ranges (suc x) vs

  abbrev pub param_ranges : (params number : ℕ) → List Variable → List Tree
  param_ranges zero x vs = []
  param_ranges (suc n) x [] = []
  param_ranges (suc n) x (v ∷ vs) = range_trees (kind_of v) (value (variables.Local x)) ++ param_ranges n (suc x) vs

  abbrev pub start_claim : Claim → Tree
  start_claim c = claim_tree (entry_reading p s cells texts 0 (is_param params)) c.what

  abbrev pub start_assumed : Behavior → Tree
  start_assumed b = assumed_tree (entry_reading p s cells texts 0 (is_param params)) b.assumes

  abbrev pub required_trees : (is_plain : Bool) → Behavior → List Tree
  required_trees plain b = map (λ c. under plain (start_assumed b) (start_claim c)) b.requires

  abbrev pub all_required : List Behavior → List Tree
  all_required [] = []
  all_required (b ∷ bs) = required_trees false b ++ all_required bs

  abbrev pub start_trees : Function Steps → List Tree
  start_trees f =
      block_trees cells.has_blocks ++ (file_ranges 0 p.globals ++ (param_ranges params 0 s.variables
      ++ (required_trees true f.contract.plain ++ all_required f.contract.behaviors)))

  abbrev pub start_of : Function Steps → Start
  start_of f = record { origins = origins_of p s cells params; facts = map (claim m) (start_trees f) }
