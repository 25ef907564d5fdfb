use Rattle.std.proofs.Common.{◌≡◌, ◌++◌, map, drop}
use Rattle.qed_terms.specs.View.{formula_tree}
use Rattle.core_trees.specs.View.{view_claim}
use Rattle.program_trees.specs.View.{view_facts}
use Rattle.call_walks.specs.Claimed.{claims_under}
use Rattle.call_walks.proofs.claims.push_under.Given as goal

abbrev pub invariant-loop-claim : goal.invariant-loop-claim
invariant-loop-claim g l =
    map formula_tree l.made ++ claims_under (view_facts l.facts) (g.T.Texts.text l.texts) l.labels l.is_plain (formula_tree l.assumed) (map view_claim (drop l.claim-index l.claims))
    ≡ map formula_tree l.initial.made ++ claims_under (view_facts l.facts) (g.T.Texts.text l.texts) l.labels l.is_plain (formula_tree l.assumed) (map view_claim l.claims)
