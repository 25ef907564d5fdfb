use Rattle.std.proofs.Common.{◌≡◌, ◌≤◌, ◌*◌, ◌+◌, ℕ, List, drop, length}
use Rattle.checked_trees.specs.declared.steps.Step.{size-Step}
use Rattle.checked_trees.specs.View.{view_steps}
use Rattle.program_steps.specs.Temporaries.{Temporaries, all_live}
use Rattle.walk_live.specs.Bits.{all_bits, bits}
use Rattle.walk_live.proofs.live.+live.Given as goal

abbrev pub invariant-all_live-loop-left : goal.invariant-all_live-loop-left
invariant-all_live-loop-left l = record {
  within : l.left ≤ length l.steps;
  live : (c : ℕ) (os : List Temporaries) (f : Temporaries) → l.outs ≡ all_bits c os → l.initial.set.items ≡ bits c f → l.set.items ≡ bits c (all_live (view_steps (drop l.left l.steps)) os f);
}

-- ---- measures

abbrev pub decreases-all_live-loop-left : goal.decreases-all_live-loop-left
decreases-all_live-loop-left l = l.left

abbrev pub decreases-live : goal.decreases-live
decreases-live l = size-Step l.step.now * 2

abbrev pub decreases-all_live : goal.decreases-all_live
decreases-all_live l = goal.size-all_live l * 2 + 1
