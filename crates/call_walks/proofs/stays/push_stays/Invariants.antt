use Rattle.std.proofs.Common.{◌≡◌, ◌++◌, map, drop}
use Rattle.core_trees.specs.View.{view_variables}
use Rattle.program_trees.specs.View.{view_behavior, view_contract, view_facts}
use Rattle.qed_terms.specs.View.{formula_tree, term_tree}
use Rattle.call_words.specs.Sets.{may_differ}
use Rattle.call_walks.specs.Claimed.{stays_in}
use Rattle.call_walks.proofs.stays.push_stays.Given as goal

abbrev pub invariant-loop-variable : goal.invariant-loop-variable
invariant-loop-variable l =
    map formula_tree l.made ++ stays_in (map term_tree l.now) (map term_tree l.before) (may_differ (view_contract l.contract)) (formula_tree l.assumed) (view_behavior l.behavior).assigns l.variable (drop l.variable (view_variables l.facts.globals))
    ≡ map formula_tree l.initial.made ++ stays_in (map term_tree l.now) (map term_tree l.before) (may_differ (view_contract l.contract)) (formula_tree l.assumed) (view_behavior l.behavior).assigns 0 (view_variables l.facts.globals)
