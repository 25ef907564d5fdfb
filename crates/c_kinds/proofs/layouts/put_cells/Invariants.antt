use Rattle.std.proofs.Common.{◌≡◌, ◌++◌}
use Rattle.wp_base.specs.Blocks.{repeated}
use Rattle.c_kinds.proofs.layouts.put_cells.Given as goal

-- the cells of the elements so far stand behind those that were there
abbrev pub invariant-loop : goal.invariant-loop
invariant-loop l = l.cells.items ≡ l.fn.cells.items ++ repeated l.counter l.part.cells
