-- What is held in memory, as plain values.
use Rattle.std.specs.Prelude.{◌≡◌, Bool, List}
use Rattle.wp_base.specs.declared.kinds.CellKind.{CellKind}
use Rattle.core_trees.specs.View.{view_variables}
use Rattle.c_runs.specs.Program.{Variable}
use Rattle.memory_steps.specs.State.{Base}
use Rattle.memory_words.specs.Shapes.{FileCells, Shape}
use Rattle.memory_names.specs.declared.bases.Named.{Named}
use Rattle.memory_names.specs.Names.{shape_with, slot_bases}
use Rattle.memory_names.specs.Parts.{flagged}

abbrev pub globals_in : Named → List Variable
globals_in n = view_variables n.globals.now

abbrev pub shape_in : Named → Shape
shape_in n = shape_with n.temporaries.now (view_variables n.variables.now) n.result

abbrev pub has_kind : Named → CellKind → Bool
has_kind n = flagged n.kinds.now

-- these are the cells of the file
abbrev pub HasKinds : Named → FileCells → Type 0
HasKinds n cells = (k : CellKind) → has_kind n k ≡ cells.has_kind k

abbrev pub bases_in : Named → FileCells → List Base
bases_in n cells = slot_bases n.file.now n.own.now n.params (globals_in n) (shape_in n) n.calls_point cells
