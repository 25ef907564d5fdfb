use Rattle.std.proofs.Common.{◌+◌, ◌*◌}
use Rattle.test_made.proofs.bodies.+reading.Given as goal

abbrev pub decreases-stmt_at : goal.decreases-stmt_at
decreases-stmt_at l = l.turns * 4

abbrev pub decreases-boxed : goal.decreases-boxed
decreases-boxed l = l.turns * 4 + 1

abbrev pub decreases-choice : goal.decreases-choice
decreases-choice l = l.turns * 4 + 2

abbrev pub decreases-stmts_at : goal.decreases-stmts_at
decreases-stmts_at l = l.turns * 4 + 3
