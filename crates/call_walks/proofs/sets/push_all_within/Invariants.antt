use Rattle.std.proofs.Common.{◌≡◌, ◌++◌, false, map, drop}
use Rattle.qed_terms.specs.View.{formula_tree}
use Rattle.program_trees.specs.View.{view_behavior, view_contract, view_facts}
use Rattle.acsl_trees.specs.Tree.{view_trees}
use Rattle.call_walks.specs.Claimed.{joined}
use Rattle.call_walks.specs.Sets.{within_by}
use Rattle.call_walks.proofs.sets.push_all_within.Given as goal

abbrev pub invariant-loop-behavior : goal.invariant-loop-behavior
invariant-loop-behavior g l =
    map formula_tree l.made ++ joined (within_by (view_facts l.facts) (g.T.Texts.text l.texts) l.entered (view_trees l.around) false) (map view_behavior (drop l.behavior-index l.behaviors))
    ≡ map formula_tree l.initial.made ++ joined (within_by (view_facts l.facts) (g.T.Texts.text l.texts) l.entered (view_trees l.around) false) (map view_behavior l.behaviors)
