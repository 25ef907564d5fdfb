use Rattle.program_trees.specs.View.{view_facts}
use Rattle.logic_calls.specs.View.{view_names}
use Rattle.logic_settings.specs.Growing.{HasFirst}
use Rattle.logic_settings.proofs.definitions.functions_of.Given as goal

-- what the first definitions make
abbrev pub invariant-loop-at : goal.invariant-loop-at
invariant-loop-at l = HasFirst (view_facts l.facts) (view_names l.names) l.at l.known.items l.logic.items
