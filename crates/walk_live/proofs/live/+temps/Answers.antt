use Rattle.std.proofs.Common.{◌||◌, take}
use Rattle.checked_trees.specs.View.{view_steps}
use Rattle.plain_runs.specs.Kept.{some_temps}
use Rattle.walk_live.proofs.Marks.{temps_next}
use Rattle.walk_live.proofs.live.+temps.Goals as goal

pub mark_all_temps-loop-step-preserved : goal.mark_all_temps-loop-step-preserved
mark_all_temps-loop-step-preserved t c k f h =
    temps_next k f c.args.steps.now c.loop-step.step-index c.step-item.result c.mark_temps.new.set.items c.loop-step-test.true c.step-item.is
    (c.mark_temps.ensures k (λ n. some_temps (view_steps (take c.loop-step.step-index c.args.steps.now)) n || f n) (c.loop-step.invariant k f h))
