use Rattle.std.proofs.Common.{◌≡◌, drop}
use Rattle.typed_prog.specs.Tree.{values_of}
use Rattle.typed_prog.specs.View.{view_values}
use Rattle.plain_test.specs.Plain as spec
use Rattle.plain_test.proofs.values.+plain_values.Given as goal

abbrev pub invariant-are_plain_values-loop-i : goal.invariant-are_plain_values-loop-i
invariant-are_plain_values-loop-i l = spec.are_plain_values l.model (values_of (view_values (drop l.i l.values))) ≡ spec.are_plain_values l.model (values_of (view_values l.values))
