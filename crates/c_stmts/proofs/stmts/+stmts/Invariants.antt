use Rattle.std.proofs.Common.{◌≡◌, ◌+◌, ◌*◌, [], drop, map}
use Rattle.std.specs.Prelude.{max}
use Rattle.c_syntax.specs.declared.stmt.Stmt.{size-Stmt}
use Rattle.typed_unit.specs.View.{view_stmt}
use Rattle.c_stmts.specs.Statements.{stmts, labelled}
use Rattle.c_stmts.specs.Bodies.{spelled_stmts}
use Rattle.c_stmts.proofs.Lists.{behind}
use Rattle.c_stmts.proofs.stmts.+stmts.Given as goal

-- those that are typed, and those to come, are all
abbrev pub invariant-typed_stmts-loop-i : goal.invariant-typed_stmts-loop-i
invariant-typed_stmts-loop-i l = behind (map view_stmt l.done) (stmts l.context (spelled_stmts (drop l.i l.stmts))) ≡ stmts l.initial.context (spelled_stmts l.stmts)

abbrev pub invariant-labelled-loop-i : goal.invariant-labelled-loop-i
invariant-labelled-loop-i l =
    behind (map view_stmt l.done) (labelled l.kind l.numbers.keys l.context (spelled_stmts (drop l.i l.stmts))) ≡ labelled l.kind [] l.initial.context (spelled_stmts l.stmts)

-- ---- measures: the depth of what is typed, and which function goes to which with the same

abbrev pub decreases-typed_stmt : goal.decreases-typed_stmt
decreases-typed_stmt l = size-Stmt l.stmt.now * 4

abbrev pub decreases-item : goal.decreases-item
decreases-item l = size-Stmt l.stmt.now * 4 + 1

abbrev pub decreases-typed_if : goal.decreases-typed_if
decreases-typed_if l = size-Stmt l.first.now * 4 + 1

abbrev pub decreases-typed_if_else : goal.decreases-typed_if_else
decreases-typed_if_else l = max (size-Stmt l.first.now) (size-Stmt l.other.now) * 4 + 1

abbrev pub decreases-typed_loop : goal.decreases-typed_loop
decreases-typed_loop l = size-Stmt l.body.now * 4 + 1

abbrev pub decreases-typed_do : goal.decreases-typed_do
decreases-typed_do l = size-Stmt l.body.now * 4 + 1

abbrev pub decreases-typed_for : goal.decreases-typed_for
decreases-typed_for l = max (size-Stmt l.first.now) (size-Stmt l.body.now) * 4 + 2

abbrev pub decreases-typed_stmts : goal.decreases-typed_stmts
decreases-typed_stmts l = goal.size-typed_stmts l * 4 + 2

abbrev pub decreases-labelled : goal.decreases-labelled
decreases-labelled l = goal.size-labelled l * 4 + 2

abbrev pub decreases-typed_block : goal.decreases-typed_block
decreases-typed_block l = goal.size-typed_block l * 4 + 3

abbrev pub decreases-typed_switch : goal.decreases-typed_switch
decreases-typed_switch l = goal.size-typed_switch l * 4 + 3
