use Rattle.std.proofs.Common.{◌-◌}
use Rattle.tree_places.specs.View.{nodes_of}
use Rattle.branch_rows.specs.Marks.{GoneDown}
use Rattle.branch_rows.proofs.marks.marks_under.Given as goal

abbrev pub invariant-loop-done : goal.invariant-loop-done
invariant-loop-done l = GoneDown (nodes_of l.table) l.roots (l.count - l.done) l.marks.items
