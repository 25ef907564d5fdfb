use Rattle.std.proofs.Common.{◌≡◌, ◌++◌, map, drop}
use Rattle.report_read.specs.Bytes.{joined}
use Rattle.report_shown.specs.View.{view_run}
use Rattle.view_text.specs.Text.{run_row}
use Rattle.view_text.proofs.table.put_runs.Given as goal

abbrev pub invariant-loop-run : goal.invariant-loop-run
invariant-loop-run l = l.text.items ++ joined (map run_row (map view_run (drop l.run-index l.runs))) ≡ l.initial.text.items ++ joined (map run_row (map view_run l.runs))
