use Rattle.std.proofs.Common.{◌≡◌, drop}
use Rattle.acsl_trees.specs.Tree.{view_trees}
use Rattle.c_runs.specs.Program.{Facts}
use Rattle.loop_words.specs.Sets as spec
use Rattle.plain_runs.specs.Fitting.{Shape}
use Rattle.program_steps.specs.Terms.{Texts}
use Rattle.loop_walks.proofs.inside.some_outside.Given as goal

abbrev pub invariant-loop-region : goal.invariant-loop-region
invariant-loop-region l =
    (p : Facts) (s : Shape) (texts : Texts) → spec.some_outside p s texts (view_trees l.names) l.declared (view_trees (drop l.region-index l.regions))
    ≡ spec.some_outside p s texts (view_trees l.names) l.declared (view_trees l.regions)
