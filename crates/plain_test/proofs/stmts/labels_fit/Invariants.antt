use Rattle.std.proofs.Common.{◌≡◌, drop}
use Rattle.typed_unit.specs.View.{view_stmts}
use Rattle.plain_test.specs.Plain as spec
use Rattle.plain_test.proofs.stmts.labels_fit.Given as goal

abbrev pub invariant-loop-i : goal.invariant-loop-i
invariant-loop-i l = spec.labels_fit l.model l.kind (view_stmts (drop l.i l.stmts)) ≡ spec.labels_fit l.model l.kind (view_stmts l.stmts)
