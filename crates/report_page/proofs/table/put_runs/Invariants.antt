use Rattle.std.proofs.Common.{◌≡◌, ◌++◌, map, drop}
use Rattle.std.specs.List.{flat_map}
use Rattle.report_shown.specs.View.{view_run}
use Rattle.report_page.specs.Markup.{texts}
use Rattle.report_page.specs.Page.{run_pieces}
use Rattle.report_page.proofs.table.put_runs.Given as goal

abbrev pub invariant-loop-run : goal.invariant-loop-run
invariant-loop-run l =
    l.page.items ++ texts (flat_map run_pieces (map view_run (drop l.run-index l.runs))) ≡ l.initial.page.items ++ texts (flat_map run_pieces (map view_run l.runs))
