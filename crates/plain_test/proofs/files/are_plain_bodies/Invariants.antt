use Rattle.std.proofs.Common.{◌≡◌, drop, map}
use Rattle.std.specs.List.{list_all}
use Rattle.typed_unit.specs.View.{view_body}
use Rattle.plain_test.specs.Plain as spec
use Rattle.plain_test.proofs.files.are_plain_bodies.Given as goal

abbrev pub invariant-loop-i : goal.invariant-loop-i
invariant-loop-i l = list_all (spec.is_plain_body l.model) (map view_body (drop l.i l.bodies)) ≡ list_all (spec.is_plain_body l.model) (map view_body l.bodies)
