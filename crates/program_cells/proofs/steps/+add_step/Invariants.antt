use Rattle.std.proofs.Common.{drop, flat_map}
use Rattle.core_trees.specs.View.{view_variables}
use Rattle.program_trees.specs.View.{view_facts}
use Rattle.program_cells.specs.View.{view_declared}
use Rattle.program_cells.proofs.Adding.{Onward}
use Rattle.program_cells.proofs.Statements.{code_step}
use Rattle.program_cells.proofs.steps.+add_step.Given as goal

abbrev pub invariant-add_steps-loop-at : goal.invariant-add_steps-loop-at
invariant-add_steps-loop-at l = Onward l.initial.cells l.cells
    (flat_map (code_step (view_facts l.facts) (view_variables l.own) (view_declared l.declared)) (drop l.at l.steps))
    (flat_map (code_step (view_facts l.facts) (view_variables l.own) (view_declared l.declared)) l.steps)
