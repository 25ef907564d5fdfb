use Rattle.std.proofs.Common.{◌≡◌, ◌++◌, map, drop}
use Rattle.core_trees.specs.View.{view_variables}
use Rattle.program_trees.specs.View.{view_contract, view_facts}
use Rattle.walk_words.specs.View.{view_change}
use Rattle.call_words.specs.Sets.{file_changes}
use Rattle.call_walks.proofs.changes.file_changes.Given as goal

abbrev pub invariant-loop-number : goal.invariant-loop-number
invariant-loop-number l =
    map view_change l.made.items ++ file_changes (view_facts l.facts) (view_contract l.contract) l.number (view_variables (drop l.number l.globals))
    ≡ file_changes (view_facts l.facts) (view_contract l.contract) 0 (view_variables l.facts.globals)
