use Rattle.std.proofs.Common.{◌≡◌, drop}
use Rattle.core_trees.specs.View.{view_variables}
use Rattle.program_trees.specs.View.{view_facts}
use Rattle.checked_trees.specs.View.{view_steps}
use Rattle.plain_annotations.specs.Annotated.{all_claim}
use Rattle.plain_trees.specs.Taking.{taking, shape_with}
use Rattle.plain_trees.proofs.steps.+step_claims.Given as goal

abbrev pub invariant-all_claim-loop-at : goal.invariant-all_claim-loop-at
invariant-all_claim-loop-at l =
    all_claim (view_facts l.facts) (taking l.takes) (shape_with (view_variables l.own) l.gives) (view_steps (drop l.at l.steps))
    ≡ all_claim (view_facts l.facts) (taking l.takes) (shape_with (view_variables l.own) l.gives) (view_steps l.steps)
