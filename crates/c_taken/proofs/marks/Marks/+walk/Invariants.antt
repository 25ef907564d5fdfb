use Rattle.std.proofs.Common.{◌≡◌, drop, map}
use Rattle.c_syntax.specs.Stmt as s
use Rattle.c_syntax.specs.View.{view_stmt}
use Rattle.c_taken.specs.Walks.{all_walked}
use Rattle.c_taken.proofs.marks.Marks.+walk.Given as goal

-- with those that are left, all are gone through
abbrev pub invariant-walk_all-loop-stmt : goal.invariant-walk_all-loop-stmt
invariant-walk_all-loop-stmt l = all_walked (s.stmts_of (map view_stmt (drop l.stmt-index l.body))) l.self ≡ all_walked (s.stmts_of (map view_stmt l.body)) l.initial.self
