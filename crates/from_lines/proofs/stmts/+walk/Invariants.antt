use Rattle.std.proofs.Common.{◌≡◌, map, drop}
use Rattle.c_syntax.specs.Stmt.{stmts_of}
use Rattle.c_syntax.specs.View.{view_stmt}
use Rattle.from_lines.specs.Froms.{in_stmts}
use Rattle.from_lines.proofs.stmts.+walk.Given as goal

abbrev pub invariant-put_stmts-loop-stmt : goal.invariant-put_stmts-loop-stmt
invariant-put_stmts-loop-stmt l =
    in_stmts (stmts_of (map view_stmt (drop l.stmt-index l.body))) l.lines.items ≡ in_stmts (stmts_of (map view_stmt l.body)) l.initial.lines.items
