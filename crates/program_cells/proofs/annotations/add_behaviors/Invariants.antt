use Rattle.std.proofs.Common.{drop, flat_map}
use Rattle.core_trees.specs.View.{view_variables}
use Rattle.program_trees.specs.View.{view_facts}
use Rattle.program_cells.specs.View.{view_declared}
use Rattle.program_cells.proofs.Adding.{Onward}
use Rattle.program_cells.proofs.Clauses.{code_behavior}
use Rattle.program_cells.proofs.annotations.add_behaviors.Given as goal

abbrev pub invariant-loop-at : goal.invariant-loop-at
invariant-loop-at l = Onward l.initial.cells l.cells
    (flat_map (code_behavior (view_facts l.facts) (view_variables l.own) (view_declared l.declared)) (drop l.at l.behaviors))
    (flat_map (code_behavior (view_facts l.facts) (view_variables l.own) (view_declared l.declared)) l.behaviors)
