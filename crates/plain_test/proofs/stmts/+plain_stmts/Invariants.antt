use Rattle.std.proofs.Common.{◌≡◌, drop}
use Rattle.typed_unit.specs.View.{view_stmts}
use Rattle.plain_test.specs.Plain as spec
use Rattle.plain_test.proofs.stmts.+plain_stmts.Given as goal

abbrev pub invariant-are_plain_stmts-loop-i : goal.invariant-are_plain_stmts-loop-i
invariant-are_plain_stmts-loop-i l = spec.are_plain_stmts l.model (view_stmts (drop l.i l.stmts)) ≡ spec.are_plain_stmts l.model (view_stmts l.stmts)
