-- What a function with memory is made of, and which slots its variables and temporaries have.
use Rattle.std.specs.Prelude.{ℕ, Bool, true, false, List, length, Option}
use Rattle.wp_base.specs.declared.kinds.CellKind.{CellKind}
use Rattle.wp_base.specs.declared.kinds.CellKind.TheVariants as cell
use Rattle.c_runs.specs.Program.{Variable, Facts}
use Rattle.c_runs.specs.Scopes.{scalar_of}
use Rattle.memory_words.specs.Places.{Place, numbers, blocks, offsets, Sizes}

-- Which cells a file has: whether there is a block or a pointer at all, and the kinds of cells.
pub record FileCells : Type 0 where
  pub has_blocks : Bool
  pub has_kind : CellKind → Bool

-- a function's variables, how many temporaries it has and of which kinds, and the kind of its result
pub record Shape : Type 0 where
  pub variables : List Variable
  pub temporaries : ℕ
  pub temp_kind : ℕ → CellKind
  pub result : Option CellKind

abbrev pub sizes : Facts → Shape → Sizes
sizes p s = record { globals = length p.globals; locals = length s.variables; temporaries = s.temporaries }

-- the kind of what a variable holds that no pointer leads to
abbrev pub kind_of : Variable → CellKind
kind_of v = scalar_of v.layout.cells

abbrev pub is_pointer_cell : CellKind → Bool
is_pointer_cell (cell.Of k) = false
is_pointer_cell cell.Ptr = true

-- whether a place holds a memory: those of the kinds of cells that the file has; all others hold numbers
abbrev pub is_memory : FileCells → Place → Bool
is_memory cells (numbers k) = cells.has_kind (cell.Of k)
is_memory cells blocks = cells.has_kind cell.Ptr
is_memory cells offsets = cells.has_kind cell.Ptr
is_memory cells a = false
