use Rattle.std.proofs.Common.{◌≡◌, drop}
use Rattle.acsl_trees.specs.Tree.{view_trees}
use Rattle.program_steps.specs.Terms as spec
use Rattle.walk_frames.proofs.regions.has_variable.Given as goal

abbrev pub invariant-loop-region : goal.invariant-loop-region
invariant-loop-region l = spec.has_variable (view_trees (drop l.region-index l.regions)) l.variable ≡ spec.has_variable (view_trees l.regions) l.variable
