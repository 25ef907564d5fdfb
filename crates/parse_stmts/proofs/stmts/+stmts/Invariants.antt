use Rattle.std.proofs.Common.{◌≡◌, ◌+◌, ◌*◌, ◌-◌, map}
use Rattle.c_syntax.specs.View.{view_stmt}
use Rattle.parse_stmts.specs.Read.{item, stmts, stmt}
use Rattle.parse_stmts.specs.Views.{with_stmts}
use Rattle.parse_stmts.proofs.stmts.+stmts.Given as goal

abbrev pub decreases-annotated : goal.decreases-annotated
decreases-annotated l = 16 * l.room

abbrev pub decreases-started : goal.decreases-started
decreases-started l = 16 * l.room + 1

abbrev pub decreases-stmt : goal.decreases-stmt
decreases-stmt l = 16 * l.room + 2

abbrev pub decreases-item : goal.decreases-item
decreases-item l = 16 * l.room + 3

abbrev pub decreases-stmts : goal.decreases-stmts
decreases-stmts l = 16 * l.room + 4

abbrev pub decreases-braces : goal.decreases-braces
decreases-braces l = 16 * l.room + 5

abbrev pub decreases-switch : goal.decreases-switch
decreases-switch l = 16 * l.room + 5

abbrev pub decreases-body : goal.decreases-body
decreases-body l = 16 * l.room + 6

abbrev pub decreases-otherwise : goal.decreases-otherwise
decreases-otherwise l = 16 * l.room + 7

abbrev pub decreases-choice : goal.decreases-choice
decreases-choice l = 16 * l.room + 8

abbrev pub decreases-while_loop : goal.decreases-while_loop
decreases-while_loop l = 16 * l.room + 7

abbrev pub decreases-do_loop : goal.decreases-do_loop
decreases-do_loop l = 16 * l.room + 7

abbrev pub decreases-for_loop : goal.decreases-for_loop
decreases-for_loop l = 16 * l.room + 7

abbrev pub decreases-looped : goal.decreases-looped
decreases-looped l = 16 * l.room + 8

-- the statements so far and those of what is left are all
abbrev pub invariant-stmts-loop-turn : goal.invariant-stmts-loop-turn
invariant-stmts-loop-turn l =
    let one = item l.types l.room l.cases (stmt l.types l.around.end l.room l.around.loops l.around.breaks) in
    with_stmts (map view_stmt l.items) (stmts one (l.turn-end - l.turn) l.starts l.rest) ≡ stmts one l.turn-end l.fn.starts l.tokens
