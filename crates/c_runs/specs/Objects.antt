-- Objects: where the way to one leads, and what reading it, or a pointer to it, gives (C11 6.3.2.1, 6.5.2, 6.5.3.2). The operands of a way have their
-- values by then; its index checks come next, from the left, and then the access.
use Rattle.std.specs.Prelude.{ℕ, Bool, true, false, ◌&&◌, ◌||◌, if◌then◌else◌, ℤ, pos, int_le, int_lt, List, [], ◌∷◌, Option, Some, None, slice_get}
use Rattle.wp_base.specs.declared.kinds.CellKind.{CellKind}
use Rattle.wp_base.specs.declared.kinds.CellKind.TheVariants as cell
use Rattle.wp_base.specs.declared.kinds.Kind.{Kind}
use Rattle.wp_base.specs.Blocks.{is_cell, is_writable}
use Rattle.typed_prog.specs.declared.types.CoreType.{CoreType}
use Rattle.typed_prog.specs.declared.operators.Path.{Path}
use Rattle.typed_prog.specs.declared.operators.Root.{Root}
use Rattle.typed_prog.specs.declared.operators.Root.TheVariants as root
use Rattle.typed_prog.specs.declared.operators.Step.{Step}
use Rattle.typed_prog.specs.declared.operators.Step.TheVariants as step
use Rattle.typed_prog.specs.declared.operators.Variable.TheVariants as variable
use Rattle.typed_prog.specs.Types.{kind_of}
use Rattle.c_runs.specs.TruthStates.{Value, number, pointer, block_of, offset_of, number_of, of_kind}
use Rattle.c_runs.specs.Truth.{moved, moved_by, value_at}
use Rattle.c_runs.specs.Program.{Facts, Variable}
use Rattle.c_runs.specs.States.{Local, plain, home, World, Memory, home_of}
use Rattle.c_runs.specs.Operators.{Undefined, init, access, index, Val, is, where_true, pointed}

-- ---- variables

abbrev pub is_plain_in : Option Variable → Bool
is_plain_in (Some v) = v.is_plain
is_plain_in None = false

abbrev pub has_value_in : Option Variable → Bool
has_value_in (Some v) = v.has_value
has_value_in None = false

-- a local that no pointer leads to, if the way begins at one
abbrev pub plain_root : List Variable → Root → Option ℕ
plain_root vs (root.Variable (variable.Local x)) = if is_plain_in (slice_get vs x) then Some x else None
plain_root vs _ = None

abbrev pub has_value : List Variable → ℕ → Bool
has_value vs x = has_value_in (slice_get vs x)

-- what reading such a local gives: it has to be set, which one with a value is
abbrev pub read_local : (has_value : Bool) → (line : ℕ) → Local → Val
read_local sure l (plain v is_set) = where_true (sure || is_set) init l (is v)
read_local sure l (home b) = where_true sure init l (is (number (pos 0)))

-- ---- addresses

-- the cell of a scalar of this type
abbrev pub cell_by : Option Kind → CellKind
cell_by (Some k) = cell.Of k
cell_by None = cell.Ptr

abbrev pub cell_of : CoreType → CellKind
cell_of type = cell_by (kind_of type)

-- the first cell of a variable, or where an operand points
abbrev pub start : Facts → World → Root → List Value → Value
start p w (root.Variable x) vs = pointer (home_of p w.locals x) (pos 0)
start p w (root.Pointed n) vs = value_at vs n

abbrev pub stepped : List Value → Step → Value → Value
stepped vs (step.Field n offset) v = moved v (pos offset)
stepped vs (step.Element operand size count line) v = moved_by false size v (value_at vs operand)
stepped vs (step.Moved operand size) v = moved_by false size v (value_at vs operand)

abbrev pub along : List Value → List Step → Value → Value
along vs [] v = v
along vs (s ∷ ss) v = along vs ss (stepped vs s v)

abbrev pub address : Facts → World → Path → List Value → Value
address p w path vs = along vs path.steps (start p w path.root vs)

-- ---- checks of a way

-- the index of a declared array is at least 0 and less than its length (this project's choice, stricter than C11 6.5.6p8)
abbrev pub is_index : (count : ℕ) → ℤ → Bool
is_index count i = int_le (pos 0) i && int_lt i (pos count)

abbrev pub indexed_by : List Value → Step → Val → Val
indexed_by vs (step.Element operand size count line) v = where_true (is_index count (number_of (value_at vs operand))) index line v
indexed_by vs _ v = v

-- behind the index checks of these steps
abbrev pub indexed : List Value → List Step → Val → Val
indexed vs [] v = v
indexed vs (s ∷ ss) v = indexed_by vs s (indexed vs ss v)

-- what a pointer leads to may be no cell of the kind (C11 6.5.3.2p4, 6.5p7); a variable is one
abbrev pub is_pointed : Root → Bool
is_pointed (root.Pointed n) = true
is_pointed (root.Variable x) = false

abbrev pub may_read : Memory → CellKind → Root → Value → Bool
may_read m k r v = if is_pointed r then is_cell k m.blocks (block_of v) (offset_of v) else true

abbrev pub may_write : Memory → CellKind → Root → Value → Bool
may_write m k r v = if is_pointed r then is_writable k m.blocks (block_of v) (offset_of v) else true

-- ---- reading

abbrev pub content : Memory → CellKind → Value → Value
content m k v = of_kind k (m.cells (block_of v) (offset_of v))

abbrev pub read_at : Memory → CellKind → Path → Value → Val
read_at m k path v = where_true (may_read m k path.root v) access path.line (is (content m k v))

abbrev pub read_by : Option ℕ → Facts → List Variable → World → CoreType → Path → List Value → Val
read_by (Some x) p xs w type path vs = read_local (has_value xs x) path.line (w.locals x)
read_by None p xs w type path vs = indexed vs path.steps (read_at w.memory (cell_of type) path (address p w path vs))

-- the value of an object of this type
abbrev pub read : Facts → List Variable → World → CoreType → Path → List Value → Val
read p xs w type path vs = read_by (plain_root xs path.root) p xs w type path vs

-- ---- pointers to objects

-- `&x`, `&*p` and a variable that is an array point well by themselves
abbrev pub is_sure : List Step → Bool
is_sure [] = true
is_sure (s ∷ ss) = false

-- one that is followed at once is checked there
abbrev pub address_made : Facts → World → (accessed : Bool) → Path → List Value → Val
address_made p w accessed path vs =
    if accessed || is_sure path.steps then is (address p w path vs) else pointed w.memory.blocks path.line (address p w path vs)
