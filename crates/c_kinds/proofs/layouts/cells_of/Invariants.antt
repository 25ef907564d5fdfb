use Rattle.std.proofs.Common.{◌≡◌, ◌++◌, length, drop}
use Rattle.c_kinds.specs.Layouts.{all_cells, places}
use Rattle.c_kinds.proofs.layouts.cells_of.Given as goal

-- what is made, and what comes of the parts that are left, is the whole
abbrev pub invariant-loop-part : goal.invariant-loop-part
invariant-loop-part l = record {
  fields : l.fields.items ++ places (length l.cells.items) (drop l.part-index l.part-items) ≡ places 0 l.fn.parts;
  cells : l.cells.items ++ all_cells (drop l.part-index l.part-items) ≡ all_cells l.fn.parts;
  same : l.part-items ≡ l.fn.parts;
}
