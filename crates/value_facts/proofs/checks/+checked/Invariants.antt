use Rattle.std.proofs.Common.{◌≡◌, drop}
use Rattle.core_trees.specs.View.{view_variables}
use Rattle.c_runs.specs.Checks.{have_checks}
use Rattle.typed_prog.specs.Tree.{values_of}
use Rattle.typed_prog.specs.View.{view_values}
use Rattle.value_facts.proofs.checks.+checked.Given as goal

-- what holds of those that are left holds of all
abbrev pub invariant-have_checks-loop-value : goal.invariant-have_checks-loop-value
invariant-have_checks-loop-value l =
    have_checks (view_variables l.variables) (values_of (view_values (drop l.value-index l.values))) ≡ have_checks (view_variables l.variables) (values_of (view_values l.values))
