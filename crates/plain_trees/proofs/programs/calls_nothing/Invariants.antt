use Rattle.std.proofs.Common.{◌≡◌, drop, map}
use Rattle.std.specs.List.{list_all}
use Rattle.acsl_expand.specs.Expansion.{view_meant}
use Rattle.plain_annotations.specs.Settings.{calls_none}
use Rattle.plain_trees.proofs.programs.calls_nothing.Given as goal

abbrev pub invariant-loop-at : goal.invariant-loop-at
invariant-loop-at l =
    list_all calls_none (map view_meant (drop l.at l.definitions))
    ≡ list_all calls_none (map view_meant l.definitions)
