use Rattle.std.proofs.Common.{◌≡◌, map, take}
use Rattle.c_places.specs.Objects.{step_behind}
use Rattle.c_places.proofs.elements.steps_behind.Given as goal

abbrev pub invariant-loop-step : goal.invariant-loop-step
invariant-loop-step l = l.behind ≡ map step_behind (take l.step-index l.steps)
