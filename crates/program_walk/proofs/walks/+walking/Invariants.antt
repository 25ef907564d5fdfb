use Rattle.std.proofs.Common.{◌≡◌, ◌*◌, ◌+◌, List, drop, map}
use Rattle.checked_trees.specs.declared.steps.Step.{size-Step}
use Rattle.checked_trees.specs.View.{view_step, view_steps}
use Rattle.program_steps.specs.Temporaries.{Temporaries}
use Rattle.walk_live.specs.Bits.{all_bits, behind_each, bits}
use Rattle.call_walks.specs.View.{functions_in}
use Rattle.step_walks.specs.View.{view_state}
use Rattle.step_walks.proofs.Along.{Along}
use Rattle.walk_frames.specs.View.{facts_in, shape_in, view_point}
use Rattle.walk_frames.specs.Words.{StepsClosed}
use Rattle.program_walk.specs.View.{Over, steps_word}
use Rattle.program_walk.proofs.walks.+walking.Given as goal

abbrev pub invariant-walk_steps-loop-step : goal.invariant-walk_steps-loop-step
invariant-walk_steps-loop-step g l = record {
  behind : (os : List Temporaries) (f : Temporaries) → l.outs ≡ all_bits l.frame.temporaries os → l.after ≡ bits l.frame.temporaries f
      → l.behind.items ≡ behind_each l.frame.temporaries os f (map view_step (drop l.step-index l.steps));
  closed : (o : Over) → StepsClosed (facts_in l.frame) (shape_in l.frame o.kinds) (view_steps l.steps) → StepsClosed (facts_in l.frame) (shape_in l.frame o.kinds) (view_steps (drop l.step-index l.steps));
  along : (first : g.row.S.Denot) (o : Over) (os : List Temporaries) (f : Temporaries) → l.outs ≡ all_bits l.frame.temporaries os → l.after ≡ bits l.frame.temporaries f
      → StepsClosed (facts_in l.frame) (shape_in l.frame o.kinds) (view_steps l.steps)
      → Along l.frame.bases.now (view_state l.initial.state) (view_state l.state) (g.S.GoalSink.fits first l.initial.sink) (g.S.GoalSink.fits first l.sink)
      (steps_word o l.frame (functions_in l.functions) (g.T.Texts.text l.texts) (view_point l.frame os l.point) (view_steps (drop l.step-index l.steps)) f)
      (steps_word o l.frame (functions_in l.functions) (g.T.Texts.text l.texts) (view_point l.frame os l.point) (view_steps l.steps) f);
}

-- ---- measures

abbrev pub decreases-walk_step : goal.decreases-walk_step
decreases-walk_step g l = size-Step l.step.now * 4

abbrev pub decreases-walk_steps : goal.decreases-walk_steps
decreases-walk_steps g l = goal.size-walk_steps g l * 4 + 1

abbrev pub decreases-walk_arm : goal.decreases-walk_arm
decreases-walk_arm g l = goal.size-walk_arm g l * 4 + 2

abbrev pub decreases-walk_loop : goal.decreases-walk_loop
decreases-walk_loop g l = goal.size-walk_loop g l * 4 + 2

abbrev pub decreases-walk_around : goal.decreases-walk_around
decreases-walk_around g l = goal.size-walk_around g l * 4 + 2

abbrev pub decreases-walk_scope : goal.decreases-walk_scope
decreases-walk_scope g l = goal.size-walk_scope g l * 4 + 2

abbrev pub decreases-walk_first : goal.decreases-walk_first
decreases-walk_first g l = goal.size-walk_first g l * 4 + 3

abbrev pub decreases-walk_second : goal.decreases-walk_second
decreases-walk_second g l = goal.size-walk_second g l * 4 + 3
