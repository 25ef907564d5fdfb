use Rattle.std.proofs.Common.{◌≡◌, drop, map}
use Rattle.std.specs.List.{list_all}
use Rattle.acsl_trees.specs.Tree.{view_tree}
use Rattle.core_trees.specs.View.{view_variables}
use Rattle.program_trees.specs.View.{view_facts}
use Rattle.plain_annotations.specs.Clauses.{is_region}
use Rattle.plain_trees.proofs.regions.are_regions.Given as goal

abbrev pub invariant-loop-at : goal.invariant-loop-at
invariant-loop-at l =
    list_all (is_region (view_facts l.facts) (view_variables l.own)) (map view_tree (drop l.at l.trees))
    ≡ list_all (is_region (view_facts l.facts) (view_variables l.own)) (map view_tree l.trees)
