use Rattle.std.proofs.Common.{◌≡◌, drop, map}
use Rattle.std.specs.List.{list_all}
use Rattle.program_trees.specs.View.{view_behavior, view_facts}
use Rattle.plain_trees.specs.Taking.{assigns_file}
use Rattle.plain_trees.proofs.contracts.are_sets.Given as goal

abbrev pub invariant-loop-at : goal.invariant-loop-at
invariant-loop-at l =
    list_all (assigns_file (view_facts l.facts)) (map view_behavior (drop l.at l.behaviors))
    ≡ list_all (assigns_file (view_facts l.facts)) (map view_behavior l.behaviors)
