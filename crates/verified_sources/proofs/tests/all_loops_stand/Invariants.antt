use Rattle.std.proofs.Common.{◌≡◌, drop, map}
use Rattle.std.specs.List.{list_all}
use Rattle.std.specs.Option.{option_map}
use Rattle.program_trees.specs.Files.{at}
use Rattle.program_trees.specs.View.{view_function}
use Rattle.typed_unit.specs.View.{view_body}
use Rattle.verified_sources.specs.Tests.{body_stands}
use Rattle.verified_sources.proofs.tests.all_loops_stand.Given as goal

-- all stand exactly where those do that are left
abbrev pub invariant-loop-body : goal.invariant-loop-body
invariant-loop-body l =
    list_all (body_stands (at (map (option_map view_function) l.fn.functions))) (map view_body (drop l.body-index l.bodies))
    ≡ list_all (body_stands (at (map (option_map view_function) l.fn.functions))) (map view_body l.fn.bodies)
