use Rattle.std.proofs.Common.{◌≡◌, Some, drop, map}
use Rattle.typed_unit.specs.View.{view_body}
use Rattle.c_functions.specs.Functions.{is_defined}
use Rattle.c_functions.proofs.headers.has_body_of.Given as goal

-- it is among those that are left exactly where it is among all
abbrev pub invariant-loop-body : goal.invariant-loop-body
invariant-loop-body l = is_defined (map view_body (drop l.body-index l.bodies)) (Some l.number) ≡ is_defined (map view_body l.bodies) (Some l.number)
