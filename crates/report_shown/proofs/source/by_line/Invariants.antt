use Rattle.std.proofs.Common.{◌≡◌, map, take}
use Rattle.report_shown.specs.Source.{by_line}
use Rattle.report_shown.specs.View.{view_goals, view_list}
use Rattle.report_shown.proofs.source.by_line.Given as goal

abbrev pub invariant-loop-index : goal.invariant-loop-index
invariant-loop-index l = map view_list l.found.items ≡ by_line 1 l.count (view_goals (take l.index l.goals))
