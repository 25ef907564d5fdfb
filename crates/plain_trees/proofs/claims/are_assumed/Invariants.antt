use Rattle.std.proofs.Common.{◌≡◌, false, drop, map}
use Rattle.std.specs.List.{list_all}
use Rattle.acsl_trees.specs.Tree.{view_tree}
use Rattle.core_trees.specs.View.{view_variables}
use Rattle.program_trees.specs.View.{view_facts}
use Rattle.plain_annotations.specs.Claims.{is_claim}
use Rattle.plain_trees.specs.Taking.{taking}
use Rattle.plain_trees.proofs.claims.are_assumed.Given as goal

abbrev pub invariant-loop-at : goal.invariant-loop-at
invariant-loop-at l =
    list_all (is_claim (view_facts l.facts) (taking l.takes) (view_variables l.own) false) (map view_tree (drop l.at l.trees))
    ≡ list_all (is_claim (view_facts l.facts) (taking l.takes) (view_variables l.own) false) (map view_tree l.trees)
