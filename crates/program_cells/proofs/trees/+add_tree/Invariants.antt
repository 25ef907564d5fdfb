use Rattle.std.proofs.Common.{drop, flat_map}
use Rattle.core_trees.specs.View.{view_variables}
use Rattle.program_trees.specs.View.{view_facts}
use Rattle.program_cells.specs.View.{view_declared}
use Rattle.program_cells.proofs.Adding.{Onward}
use Rattle.program_cells.proofs.Kids.{code_parts}
use Rattle.program_cells.proofs.trees.+add_tree.Given as goal

abbrev pub invariant-add_kids-loop-at : goal.invariant-add_kids-loop-at
invariant-add_kids-loop-at l = Onward l.initial.cells l.cells
    (flat_map (code_parts (view_facts l.facts) (view_variables l.own) (view_declared l.declared)) (drop l.at l.kids))
    (flat_map (code_parts (view_facts l.facts) (view_variables l.own) (view_declared l.declared)) l.kids)
