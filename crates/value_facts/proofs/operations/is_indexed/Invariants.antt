use Rattle.std.proofs.Common.{◌≡◌, drop}
use Rattle.value_facts.specs.MayFail.{is_indexed}
use Rattle.value_facts.proofs.operations.is_indexed.Given as goal

-- what holds of the steps that are left holds of all
abbrev pub invariant-loop-step : goal.invariant-loop-step
invariant-loop-step l = is_indexed (drop l.step-index l.steps) ≡ is_indexed l.steps
