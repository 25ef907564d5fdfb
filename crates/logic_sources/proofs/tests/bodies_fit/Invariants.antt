use Rattle.std.proofs.Common.{◌≡◌, drop, map}
use Rattle.std.specs.List.{list_all}
use Rattle.checked_trees.specs.View.{view_checked_program}
use Rattle.logic_sources.specs.Built.{fits_in}
use Rattle.typed_unit.specs.View.{view_body}
use Rattle.logic_sources.proofs.tests.bodies_fit.Given as goal

-- all fit exactly where those do that are left
abbrev pub invariant-loop-body : goal.invariant-loop-body
invariant-loop-body l =
    list_all (fits_in l.fn.takes (view_checked_program l.fn.program) l.fn.file (map view_body l.fn.bodies)) (map view_body (drop l.body-index l.bodies))
    ≡ list_all (fits_in l.fn.takes (view_checked_program l.fn.program) l.fn.file (map view_body l.fn.bodies)) (map view_body l.fn.bodies)
