use Rattle.std.proofs.Common.{◌≡◌, drop, map}
use Rattle.typed_unit.specs.View.{view_body}
use Rattle.plain_sources.specs.Built.{first_names}
use Rattle.plain_sources.proofs.names.first_names.Given as goal

-- the names of the first body are those of the first one that is left
abbrev pub invariant-loop-body : goal.invariant-loop-body
invariant-loop-body l = first_names l.function (map view_body (drop l.body-index l.bodies)) ≡ first_names l.fn.function (map view_body l.fn.bodies)
