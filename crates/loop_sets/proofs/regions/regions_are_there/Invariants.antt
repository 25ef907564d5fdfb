use Rattle.std.proofs.Common.{◌≡◌, drop}
use Rattle.std.specs.List.{list_all}
use Rattle.acsl_trees.specs.Tree.{view_trees}
use Rattle.loop_sets.specs.Scopes.{scope_of}
use Rattle.plain_words.specs.Sets as spec
use Rattle.loop_sets.proofs.regions.regions_are_there.Given as goal

abbrev pub invariant-loop-region : goal.invariant-loop-region
invariant-loop-region l =
    list_all (spec.region_is_there (scope_of l.names l.params) l.declared) (view_trees (drop l.region-index l.regions))
    ≡ list_all (spec.region_is_there (scope_of l.names l.params) l.declared) (view_trees l.regions)
