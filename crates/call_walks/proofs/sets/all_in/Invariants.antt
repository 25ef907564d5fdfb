use Rattle.std.proofs.Common.{◌≡◌, drop}
use Rattle.std.specs.List.{list_all}
use Rattle.acsl_trees.specs.Tree.{view_trees}
use Rattle.call_words.specs.Sets.{is_in}
use Rattle.call_walks.proofs.sets.all_in.Given as goal

abbrev pub invariant-loop-region : goal.invariant-loop-region
invariant-loop-region l = list_all (is_in (view_trees l.around)) (view_trees (drop l.region-index l.regions)) ≡ list_all (is_in (view_trees l.around)) (view_trees l.regions)
