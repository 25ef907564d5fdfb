use Rattle.std.proofs.Common.{◌+◌, ◌*◌, max, drop}
use Rattle.typed_unit.specs.declared.stmt.Stmt.{size-Stmt}
use Rattle.typed_unit.specs.View.{view_stmts}
use Rattle.c_programs.specs.Bodies.{all_placed}
use Rattle.placed_bodies.specs.Into.{notes_left}
use Rattle.placed_bodies.proofs.Placing.{Following}
use Rattle.placed_bodies.proofs.bodies.+placing.Given as goal

abbrev pub invariant-stmts_into-loop-i : goal.invariant-stmts_into-loop-i
invariant-stmts_into-loop-i l =
    Following l.initial.out l.out (all_placed (view_stmts l.stmts) (notes_left l.left) l.left.declared) (view_stmts (drop l.i l.stmts)) l.now

-- ---- measures: depths, eight times, and a rank

abbrev pub decreases-stmt_into : goal.decreases-stmt_into
decreases-stmt_into l = size-Stmt l.stmt.now * 8

abbrev pub decreases-whole_made : goal.decreases-whole_made
decreases-whole_made l = size-Stmt l.stmt.now * 8 + 1

abbrev pub decreases-choice_into : goal.decreases-choice_into
decreases-choice_into l = max (size-Stmt l.first.now) (size-Stmt l.second.now) * 8 + 2

abbrev pub decreases-loop_into : goal.decreases-loop_into
decreases-loop_into l = size-Stmt l.body.now * 8 + 2

abbrev pub decreases-stmts_into : goal.decreases-stmts_into
decreases-stmts_into l = goal.size-stmts_into l * 8 + 3

abbrev pub decreases-stmts_made : goal.decreases-stmts_made
decreases-stmts_made l = goal.size-stmts_made l * 8 + 4

abbrev pub decreases-block_into : goal.decreases-block_into
decreases-block_into l = goal.size-block_into l * 8 + 5

abbrev pub decreases-switch_into : goal.decreases-switch_into
decreases-switch_into l = goal.size-switch_into l * 8 + 5
