use Rattle.std.proofs.Common.{◌≡◌, ◌||◌, ℕ, take}
use Rattle.checked_trees.specs.View.{view_steps}
use Rattle.plain_runs.specs.Kept.{some_temps}
use Rattle.program_steps.specs.Temporaries.{Temporaries}
use Rattle.walk_live.specs.Bits.{bits}
use Rattle.walk_live.proofs.live.+temps.Given as goal

abbrev pub invariant-mark_all_temps-loop-step : goal.invariant-mark_all_temps-loop-step
invariant-mark_all_temps-loop-step l =
    (c : ℕ) (f : Temporaries) → l.initial.set.items ≡ bits c f → l.set.items ≡ bits c (λ n. some_temps (view_steps (take l.step-index l.steps)) n || f n)
