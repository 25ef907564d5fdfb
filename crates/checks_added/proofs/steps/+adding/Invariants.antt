use Rattle.core_trees.specs.View.{view_variables}
use Rattle.checks_added.proofs.Mapping.{StepsOf}
use Rattle.checks_added.proofs.steps.+adding.Given as goal

abbrev pub invariant-steps_of-loop-core : goal.invariant-steps_of-loop-core
invariant-steps_of-loop-core l = StepsOf (view_variables l.variables) l.made l.cores l.core-index
