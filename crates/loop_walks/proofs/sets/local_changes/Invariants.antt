use Rattle.std.proofs.Common.{◌≡◌, ℕ}
use Rattle.c_runs.specs.Tree.{Steps}
use Rattle.core_trees.specs.View.{view_loop}
use Rattle.loop_words.specs.Sets as spec
use Rattle.plain_runs.specs.Kept.{some_sets}
use Rattle.walk_live.specs.Bits.{bits}
use Rattle.loop_walks.proofs.sets.local_changes.Given as goal

abbrev pub invariant-loop-at : goal.invariant-loop-at
invariant-loop-at l = (c : ℕ) (ss : Steps) → l.text ≡ bits c (some_sets ss) → l.made.items ≡ bits l.at (spec.local_changes (view_loop l.l) ss)
