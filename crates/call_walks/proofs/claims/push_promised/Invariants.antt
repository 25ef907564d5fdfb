use Rattle.std.proofs.Common.{◌≡◌, ◌++◌, false, map, drop}
use Rattle.qed_terms.specs.View.{formula_tree}
use Rattle.program_trees.specs.View.{view_behavior, view_contract, view_facts}
use Rattle.call_walks.specs.Claimed.{joined, promised_by}
use Rattle.call_walks.proofs.claims.push_promised.Given as goal

abbrev pub invariant-loop-behavior : goal.invariant-loop-behavior
invariant-loop-behavior g l =
    map formula_tree l.made ++ joined (promised_by (view_facts l.facts) (g.T.Texts.text l.texts) l.entered l.returned false) (map view_behavior (drop l.behavior-index l.behaviors))
    ≡ map formula_tree l.initial.made ++ joined (promised_by (view_facts l.facts) (g.T.Texts.text l.texts) l.entered l.returned false) (map view_behavior l.behaviors)
