use Rattle.std.proofs.Common.{◌≡◌, ◌++◌, drop}
use Rattle.core_trees.specs.View.{view_variables}
use Rattle.function_walks.specs.Entry.{view_origins}
use Rattle.program_steps.specs.Starting.{own_origins}
use Rattle.function_walks.proofs.origins.put_own.Given as goal

abbrev pub invariant-loop-variable : goal.invariant-loop-variable
invariant-loop-variable l =
    view_origins l.made.items ++ own_origins l.left (view_variables (drop l._variable-index l.variables)) ≡ view_origins l.fn.made.items ++ own_origins l.fn.params (view_variables l.variables)
