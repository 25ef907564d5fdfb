-- Names of the slots of a function with memory, by their places, out of the names of variables. A variable that holds an integer has its own name, and one
-- that holds a pointer two: `:b` behind it is the block to which it leads, `:o` the offset there. A flag has `:i` behind it. A parameter that has the name of a
-- variable of the file has `%` before it. What the function gives is `\result`, what a call has given `%`, and temporaries are `%1`, `%2` and so on. The
-- memory of the cells of a kind is `M:` with the kind. No name of C has a `:`, a `%` or a `\`.
use Rattle.std.specs.Prelude.{ℕ, suc, Bool, true, false, ◌&&◌, List, [], ◌++◌, codes, map, Option, Some, None, slice_get, slice_index_or, length}
use Rattle.wp_base.specs.declared.kinds.CellKind.{CellKind}
use Rattle.wp_base.specs.declared.kinds.CellKind.TheVariants as cell
use Rattle.wp_base.specs.declared.kinds.Kind.{Kind}
use Rattle.wp_base.specs.declared.kinds.Kind.TheVariants as kind
use Rattle.typed_prog.specs.declared.operators.Variable.TheVariants as variables
use Rattle.typed_prog.specs.declared.operators.Variable as numbered
use Rattle.c_runs.specs.Program.{Variable, Function, Facts}
use Rattle.memory_steps.specs.State.{Base, base}
use Rattle.memory_words.specs.Places.{Place, Sizes, value, offset, flag, result, result_offset, answer, answer_offset, temporary, temporary_offset, numbers, blocks, offsets, places}
use Rattle.memory_words.specs.Shapes.{FileCells, Shape, is_pointer_cell, is_memory}
use Rattle.memory_functions.specs.GoalFunctions.{is_param}
use Rattle.memory_functions.specs.Starting.{is_pointer_in}
use Rattle.memory_functions.specs.Words.{Written}
use Rattle.slot_names.specs.Bases.{Name, is_among, flag_name, shown_as, temporary_name}

-- ---- the names of one thing

abbrev pub block_name : Name → Name
block_name x = x ++ codes ":b"

abbrev pub offset_name : Name → Name
offset_name x = x ++ codes ":o"

-- of an integer, or of the block to which a pointer leads
abbrev pub first_name : (is_pointer : Bool) → Name → Name
first_name true x = block_name x
first_name false x = x

abbrev pub memory_name : Kind → Name
memory_name kind.Bool = codes "M:bool"
memory_name kind.Char = codes "M:char"
memory_name kind.SChar = codes "M:schar"
memory_name kind.UChar = codes "M:uchar"
memory_name kind.Short = codes "M:short"
memory_name kind.UShort = codes "M:ushort"
memory_name kind.Int = codes "M:int"
memory_name kind.UInt = codes "M:uint"
memory_name kind.Long = codes "M:long"
memory_name kind.ULong = codes "M:ulong"
memory_name kind.LLong = codes "M:llong"
memory_name kind.ULLong = codes "M:ullong"

abbrev pub is_pointer_result : Option CellKind → Bool
is_pointer_result None = false
is_pointer_result (Some k) = is_pointer_cell k

-- ---- variables, of whose names the first ones of the function are its parameters

module _ (file own : List Name) (params : ℕ) where
  abbrev pub variable_name : numbered.Variable → Name
  variable_name (variables.Global x) = slice_index_or file x []
  variable_name (variables.Local x) = shown_as (is_param params x && is_among (slice_index_or own x []) file) (slice_index_or own x [])

-- ---- all slots

-- And what variables, temporaries and the result are; and whether what calls give has the names of a pointer.
module _ (file own : List Name) (params : ℕ) (globals : List Variable) (s : Shape) (calls_point : Bool) where
  abbrev pub is_pointer : numbered.Variable → Bool
  is_pointer (variables.Global x) = is_pointer_in (slice_get globals x)
  is_pointer (variables.Local x) = is_pointer_in (slice_get s.variables x)

  abbrev pub name_of : Place → Name
  name_of (value x) = first_name (is_pointer x) (variable_name file own params x)
  name_of (offset x) = offset_name (variable_name file own params x)
  name_of (flag x) = flag_name (variable_name file own params x)
  name_of result = first_name (is_pointer_result s.result) (codes "\\result")
  name_of result_offset = offset_name (codes "\\result")
  name_of answer = first_name calls_point (codes "%")
  name_of answer_offset = offset_name (codes "%")
  name_of (temporary n) = first_name (is_pointer_cell (s.temp_kind n)) (temporary_name (suc n))
  name_of (temporary_offset n) = offset_name (temporary_name (suc n))
  name_of (numbers k) = memory_name k
  name_of blocks = codes "M:ptrb"
  name_of offsets = codes "M:ptro"

  abbrev pub base_of : FileCells → Place → Base
  base_of cells a = base (name_of a) (is_memory cells a)

  abbrev pub sizes_of : Sizes
  sizes_of = record { globals = length globals; locals = length s.variables; temporaries = s.temporaries }

  -- in the order of the slots
  abbrev pub slot_bases : FileCells → List Base
  slot_bases cells = map (base_of cells) (places sizes_of)

-- the places of memories, whether the file has such cells or not
abbrev pub is_memory_place : Place → Bool
is_memory_place (numbers k) = true
is_memory_place blocks = true
is_memory_place offsets = true
is_memory_place a = false

-- ---- of a function as goals are made of it

-- the kind of a temporary; one that isn't there counts as an `int`
abbrev pub kind_at : List CellKind → ℕ → CellKind
kind_at ks n = slice_index_or ks n (cell.Of kind.Int)

-- what a function is made of, with temporaries of these kinds
abbrev pub shape_with : List CellKind → (variables : List Variable) → (result : Option CellKind) → Shape
shape_with ks vs r = record { variables = vs; temporaries = length ks; temp_kind = kind_at ks; result = r }

abbrev pub written : {B : Type 0} → (file own : List Name) → Facts → Function B → (temporaries : List CellKind) → (calls_point : Bool) → Written
written file own p f ks b = record {
  temporaries = length ks;
  temp_kind = kind_at ks;
  name = name_of file own f.params p.globals (shape_with ks f.variables f.result) b;
}
