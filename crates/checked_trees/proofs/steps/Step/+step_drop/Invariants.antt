use Rattle.std.proofs.Common.{◌≤◌}
use Rattle.checked_trees.specs.declared.steps.Step.TheViews.{size-Step}
use Rattle.checked_trees.proofs.steps.Step.+step_drop.Given as goal

abbrev pub invariant-loop-self : goal.invariant-loop-self
invariant-loop-self l = size-Step l.self ≤ size-Step l.fn.self
