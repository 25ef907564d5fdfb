use Rattle.std.proofs.Common.{◌≡◌, drop, map}
use Rattle.std.specs.List.{list_all}
use Rattle.std.specs.Option.{option_map}
use Rattle.checked_trees.specs.View.{view_checked_function}
use Rattle.program_trees.specs.View.{view_facts}
use Rattle.plain_trees.specs.Taking.{taking, if_annotated}
use Rattle.plain_trees.proofs.programs.all_annotated.Given as goal

abbrev pub invariant-loop-at : goal.invariant-loop-at
invariant-loop-at l =
    list_all (if_annotated (view_facts l.facts) (taking l.takes)) (map (option_map view_checked_function) (drop l.at l.functions))
    ≡ list_all (if_annotated (view_facts l.facts) (taking l.takes)) (map (option_map view_checked_function) l.functions)
