use Rattle.std.proofs.Common.{◌≤◌}
use Rattle.program_trees.specs.declared.stmts.Stmt.TheViews.{size-Stmt}
use Rattle.program_trees.proofs.stmts.Stmt.+stmt_drop.Given as goal

abbrev pub invariant-loop-self : goal.invariant-loop-self
invariant-loop-self l = size-Stmt l.self ≤ size-Stmt l.fn.self
