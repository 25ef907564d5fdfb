use Rattle.std.proofs.Common.{◌≡◌, ◌+◌, ◌*◌, max, false, drop}
use Rattle.core_trees.specs.View.{view_cores, view_variables}
use Rattle.program_trees.specs.declared.stmts.Stmt.TheViews.{size-Stmt}
use Rattle.program_trees.specs.View.{view_stmts}
use Rattle.c_runs.specs.Normal.{stmts, groups}
use Rattle.normal_bodies.proofs.Following.{onto}
use Rattle.normal_bodies.proofs.Grouping.{GroupsLeft}
use Rattle.normal_bodies.proofs.bodies.+bodies.Given as goal

-- ---- depths, eight times, and a rank

abbrev pub decreases-stmt_into : goal.decreases-stmt_into
decreases-stmt_into l = size-Stmt l.stmt.now * 8

abbrev pub decreases-stmt_made : goal.decreases-stmt_made
decreases-stmt_made l = size-Stmt l.stmt.now * 8 + 1

abbrev pub decreases-first_way : goal.decreases-first_way
decreases-first_way l = size-Stmt l.first.now * 8 + 1

abbrev pub decreases-by_jumps : goal.decreases-by_jumps
decreases-by_jumps l = max (size-Stmt l.first.now) (size-Stmt l.second.now) * 8 + 2

abbrev pub decreases-by_value : goal.decreases-by_value
decreases-by_value l = max (size-Stmt l.first.now) (size-Stmt l.second.now) * 8 + 2

abbrev pub decreases-loop_into : goal.decreases-loop_into
decreases-loop_into l = size-Stmt l.body.now * 8 + 2

abbrev pub decreases-group_into : goal.decreases-group_into
decreases-group_into l = size-Stmt l.stmt.now * 8 + 1

abbrev pub decreases-stmts_into : goal.decreases-stmts_into
decreases-stmts_into l = goal.size-stmts_into l * 8 + 3

abbrev pub decreases-stmts_made : goal.decreases-stmts_made
decreases-stmts_made l = goal.size-stmts_made l * 8 + 4

abbrev pub decreases-groups_into : goal.decreases-groups_into
decreases-groups_into l = goal.size-groups_into l * 8 + 3

abbrev pub decreases-switch_into : goal.decreases-switch_into
decreases-switch_into l = goal.size-switch_into l * 8 + 4

-- ---- what is pushed, and what those that are left become, is the whole

abbrev pub invariant-stmts_into-loop-stmt : goal.invariant-stmts_into-loop-stmt
invariant-stmts_into-loop-stmt l =
    onto (view_cores l.out) (stmts (view_variables l.variables) l.exits.on_break l.exits.on_continue l.next (view_stmts (drop l.stmt-index l.stmts)))
    ≡ onto (view_cores l.fn.out) (stmts (view_variables l.variables) l.exits.on_break l.exits.on_continue l.fn.next (view_stmts l.stmts))

abbrev pub invariant-groups_into-loop-stmt : goal.invariant-groups_into-loop-stmt
invariant-groups_into-loop-stmt l =
    GroupsLeft (view_variables l.variables) l.exits.on_continue l.body l.stmt-index l.out l.place
    (groups (view_variables l.variables) l.exits.on_continue l.fn.next false (view_cores l.fn.out) (view_stmts l.body))
