use Rattle.std.proofs.Common.{◌≡◌, ◌++◌, drop}
use Rattle.program_trees.specs.View.{view_stmts}
use Rattle.call_clusters.specs.Callees.{stmts_callees}
use Rattle.call_clusters.proofs.callees.+stmt_callees.Given as goal

abbrev pub invariant-put_stmts_callees-loop-i : goal.invariant-put_stmts_callees-loop-i
invariant-put_stmts_callees-loop-i l = l.out ++ stmts_callees (view_stmts (drop l.i l.stmts)) ≡ l.initial.out ++ stmts_callees (view_stmts l.stmts)
