use Rattle.std.proofs.Common.{◌≡◌, ◌≤◌, ℕ, List, drop, length, map}
use Rattle.checked_trees.specs.View.{view_step, view_steps}
use Rattle.program_steps.specs.Temporaries.{Temporaries, all_live}
use Rattle.walk_live.specs.Bits.{all_bits, behind_each, bits}
use Rattle.walk_live.proofs.behind.behind_all.Given as goal

abbrev pub invariant-loop-left : goal.invariant-loop-left
invariant-loop-left l = record {
  within : l.left ≤ length l.steps;
  live : (c : ℕ) (os : List Temporaries) (f : Temporaries) → l.outs ≡ all_bits c os → l.after ≡ bits c f → l.set.items ≡ bits c (all_live (view_steps (drop l.left l.steps)) os f);
  made : (c : ℕ) (os : List Temporaries) (f : Temporaries) → l.outs ≡ all_bits c os → l.after ≡ bits c f → l.made.items ≡ behind_each c os f (map view_step (drop l.left l.steps));
}

abbrev pub decreases-loop-left : goal.decreases-loop-left
decreases-loop-left l = l.left
