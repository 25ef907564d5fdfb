use Rattle.std.proofs.Common.{◌≡◌, ◌++◌, map, drop}
use Rattle.std.specs.List.{flat_map}
use Rattle.report_read.specs.View.{view_goal}
use Rattle.report_page.specs.Markup.{texts}
use Rattle.report_page.specs.Page.{goal_pieces}
use Rattle.report_page.proofs.details.put_rows.Given as goal

abbrev pub invariant-loop-goal : goal.invariant-loop-goal
invariant-loop-goal l =
    l.page.items ++ texts (flat_map goal_pieces (map view_goal (drop l.goal-index l.goals))) ≡ l.initial.page.items ++ texts (flat_map goal_pieces (map view_goal l.goals))
