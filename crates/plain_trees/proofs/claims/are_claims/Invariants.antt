use Rattle.std.proofs.Common.{◌≡◌, drop, map}
use Rattle.std.specs.List.{list_all}
use Rattle.core_trees.specs.View.{view_claim, view_variables}
use Rattle.program_trees.specs.View.{view_facts}
use Rattle.plain_trees.specs.Taking.{taking, claim_fits}
use Rattle.plain_trees.proofs.claims.are_claims.Given as goal

abbrev pub invariant-loop-at : goal.invariant-loop-at
invariant-loop-at l =
    list_all (claim_fits (view_facts l.facts) (taking l.takes) (view_variables l.own) l.has_result) (map view_claim (drop l.at l.claims))
    ≡ list_all (claim_fits (view_facts l.facts) (taking l.takes) (view_variables l.own) l.has_result) (map view_claim l.claims)
