use Rattle.std.proofs.Common.{◌≡◌, drop, map}
use Rattle.std.specs.List.{list_all}
use Rattle.core_trees.specs.View.{view_variables}
use Rattle.program_trees.specs.View.{view_behavior, view_facts}
use Rattle.plain_annotations.specs.Clauses.{is_behavior}
use Rattle.plain_trees.specs.Taking.{taking, shape_with}
use Rattle.plain_trees.proofs.contracts.are_behaviors.Given as goal

abbrev pub invariant-loop-at : goal.invariant-loop-at
invariant-loop-at l =
    list_all (is_behavior (view_facts l.facts) (taking l.takes) (shape_with (view_variables l.own) l.gives)) (map view_behavior (drop l.at l.behaviors))
    ≡ list_all (is_behavior (view_facts l.facts) (taking l.takes) (shape_with (view_variables l.own) l.gives)) (map view_behavior l.behaviors)
