use Rattle.std.proofs.Common.{drop, flat_map}
use Rattle.core_trees.specs.View.{view_variables}
use Rattle.program_trees.specs.View.{view_facts}
use Rattle.program_cells.proofs.Adding.{Onward}
use Rattle.program_cells.proofs.Expressions.{code_parts}
use Rattle.program_cells.proofs.values.+add_value.Given as goal

abbrev pub invariant-add_values-loop-at : goal.invariant-add_values-loop-at
invariant-add_values-loop-at l = Onward l.initial.cells l.cells
    (flat_map (code_parts (view_facts l.facts) (view_variables l.own)) (drop l.at l.values))
    (flat_map (code_parts (view_facts l.facts) (view_variables l.own)) l.values)
