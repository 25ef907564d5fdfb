use Rattle.core_trees.specs.View.{view_variables}
use Rattle.normal_steps.proofs.Saving.{kept_if, not_both, not_first}
use Rattle.normal_steps.proofs.saves.save_if.Goals as goal
use Rattle.normal_steps.proofs.saves.save_if.Goals.{else-needed-via-then-needed+else-has_checks, else-needed-via-else-needed}

-- where it isn't needed, or has no checks
pub returns-else-needed : goal.returns-else-needed
returns-else-needed c =
    kept_if c.args.out.now (view_variables c.args.variables.now) c.args.needed c.args.value c.args.next
    (elim c.else-needed.branch [
      | else-needed-via-then-needed+else-has_checks w ↦ not_both (view_variables c.args.variables.now) c.args.needed w.has_checks.result c.args.value w.has_checks.ensures w.if-has_checks.false
      | else-needed-via-else-needed w ↦ not_first (view_variables c.args.variables.now) c.args.needed c.args.value w.if-needed.false
    ])
