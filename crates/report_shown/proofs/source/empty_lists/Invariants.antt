use Rattle.std.proofs.Common.{◌≡◌, map}
use Rattle.report_shown.specs.View.{view_list}
use Rattle.report_shown.proofs.Placed.{empties}
use Rattle.report_shown.proofs.source.empty_lists.Given as goal

abbrev pub invariant-loop-line : goal.invariant-loop-line
invariant-loop-line l = map view_list l.found.items ≡ empties l.line
