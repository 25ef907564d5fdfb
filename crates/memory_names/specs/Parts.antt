-- Bases in the order of the slots, part by part.
use Rattle.std.specs.Prelude.{ℕ, zero, suc, Bool, false, List, [], ◌∷◌, ◌++◌, length, codes, Option, slice_get, slice_index_or}
use Rattle.wp_base.specs.Kinds.{cell_place}
use Rattle.wp_base.specs.declared.kinds.CellKind.{CellKind}
use Rattle.wp_base.specs.declared.kinds.CellKind.TheVariants as cell
use Rattle.wp_base.specs.declared.kinds.Kind.TheVariants as kind
use Rattle.typed_prog.specs.declared.operators.Variable.TheVariants as variables
use Rattle.c_runs.specs.Program.{Variable}
use Rattle.memory_steps.specs.State.{Base, base}
use Rattle.memory_words.specs.Shapes.{is_pointer_cell}
use Rattle.memory_functions.specs.Starting.{is_pointer_in}
use Rattle.slot_names.specs.Bases.{Name, flag_name, temporary_name}
use Rattle.memory_names.specs.Names.{offset_name, first_name, variable_name, kind_at, is_pointer_result}

-- of an integer or a pointer, and of a variable
abbrev pub two_of : (is_pointer : Bool) → Name → List Base
two_of p x = base (first_name p x) false ∷ base (offset_name x) false ∷ []

abbrev pub three_of : (is_pointer : Bool) → Name → List Base
three_of p x = base (first_name p x) false ∷ base (offset_name x) false ∷ base (flag_name x) false ∷ []

-- of so many from a number on
abbrev pub from_on : (ℕ → List Base) → (first count : ℕ) → List Base
from_on f n zero = []
from_on f n (suc k) = f n ++ from_on f (suc n) k

-- ---- the parts

abbrev pub global_part : (file : List Name) → List Variable → ℕ → List Base
global_part file vs x = three_of (is_pointer_in (slice_get vs x)) (slice_index_or file x [])

abbrev pub local_part : (file own : List Name) → (params : ℕ) → List Variable → ℕ → List Base
local_part file own params vs x = three_of (is_pointer_in (slice_get vs x)) (variable_name file own params (variables.Local x))

abbrev pub temporary_part : List CellKind → ℕ → List Base
temporary_part ks n = two_of (is_pointer_cell (kind_at ks n)) (temporary_name (suc n))

-- a flag for each kind of cells, in their order
abbrev pub flagged : List Bool → CellKind → Bool
flagged bs k = slice_index_or bs (cell_place k) false

-- of memories, by the kinds of cells that there are
abbrev pub small_memories : (CellKind → Bool) → List Base
small_memories has =
    base (codes "M:bool") (has (cell.Of kind.Bool)) ∷ base (codes "M:char") (has (cell.Of kind.Char)) ∷ base (codes "M:schar") (has (cell.Of kind.SChar))
    ∷ base (codes "M:uchar") (has (cell.Of kind.UChar)) ∷ []

abbrev pub middle_memories : (CellKind → Bool) → List Base
middle_memories has =
    base (codes "M:short") (has (cell.Of kind.Short)) ∷ base (codes "M:ushort") (has (cell.Of kind.UShort)) ∷ base (codes "M:int") (has (cell.Of kind.Int))
    ∷ base (codes "M:uint") (has (cell.Of kind.UInt)) ∷ []

abbrev pub large_memories : (CellKind → Bool) → List Base
large_memories has =
    base (codes "M:long") (has (cell.Of kind.Long)) ∷ base (codes "M:ulong") (has (cell.Of kind.ULong)) ∷ base (codes "M:llong") (has (cell.Of kind.LLong))
    ∷ base (codes "M:ullong") (has (cell.Of kind.ULLong)) ∷ []

abbrev pub pointer_memories : (CellKind → Bool) → List Base
pointer_memories has = base (codes "M:ptrb") (has cell.Ptr) ∷ base (codes "M:ptro") (has cell.Ptr) ∷ []

abbrev pub memories : (CellKind → Bool) → List Base
memories has = small_memories has ++ (middle_memories has ++ (large_memories has ++ pointer_memories has))

abbrev pub behind_part : (result : Option CellKind) → (calls_point : Bool) → (temporaries : List CellKind) → (CellKind → Bool) → List Base
behind_part r b ks has =
    two_of (is_pointer_result r) (codes "\\result") ++ (two_of b (codes "%") ++ (from_on (temporary_part ks) 0 (length ks) ++ memories has))
