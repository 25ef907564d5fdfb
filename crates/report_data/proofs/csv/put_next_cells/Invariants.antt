use Rattle.std.proofs.Common.{◌≡◌, ◌++◌, map, drop}
use Rattle.report_read.specs.Bytes.{joined}
use Rattle.report_data.specs.Csv.{next_field}
use Rattle.report_data.specs.View.{view_cell}
use Rattle.report_data.proofs.csv.put_next_cells.Given as goal

abbrev pub invariant-loop-cell : goal.invariant-loop-cell
invariant-loop-cell l = l.text.items ++ joined (map next_field (map view_cell (drop l.cell-index l.cells))) ≡ l.initial.text.items ++ joined (map next_field (map view_cell l.cells))
