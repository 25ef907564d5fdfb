use Rattle.std.proofs.Common.{◌≡◌, drop, map}
use Rattle.std.specs.List.{list_all}
use Rattle.typed_unit.specs.View.{view_declared}
use Rattle.plain_test.specs.Plain as spec
use Rattle.plain_test.proofs.stmts.are_plain_locals.Given as goal

abbrev pub invariant-loop-i : goal.invariant-loop-i
invariant-loop-i l = list_all (spec.is_plain_declared l.model) (map view_declared (drop l.i l.locals)) ≡ list_all (spec.is_plain_declared l.model) (map view_declared l.locals)
