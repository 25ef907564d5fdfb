use Rattle.std.proofs.Common.{◌≡◌, List}
use Rattle.core_trees.specs.View.{view_loop}
use Rattle.loop_words.specs.Sets as spec
use Rattle.program_steps.specs.Temporaries.{Temporaries}
use Rattle.program_trees.specs.View.{view_contract}
use Rattle.walk_frames.specs.View.{view_point}
use Rattle.walk_live.specs.Bits.{bits}
use Rattle.loop_walks.proofs.sets.file_changes.Given as goal

abbrev pub invariant-loop-at : goal.invariant-loop-at
invariant-loop-at l = (os : List Temporaries) → l.made.items ≡ bits l.at (spec.file_changes (view_contract l.frame.contract.now) (view_point l.frame os l.point) (view_loop l.l))
