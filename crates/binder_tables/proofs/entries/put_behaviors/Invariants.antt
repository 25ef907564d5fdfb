use Rattle.std.proofs.Common.{◌≡◌, ◌++◌, drop, map}
use Rattle.c_syntax.specs.View as syntax
use Rattle.program_trees.specs.View.{view_behavior}
use Rattle.binder_names.specs.Tables.{behaviors_named}
use Rattle.binder_tables.specs.View.{view_all_known, view_entries}
use Rattle.binder_tables.proofs.entries.put_behaviors.Given as goal

abbrev pub invariant-loop-at : goal.invariant-loop-at
invariant-loop-at l =
    view_entries l.out.items ++ behaviors_named (view_all_known l.known) (map syntax.view_behavior (drop l.at l.spelled)) (map view_behavior (drop l.at l.run))
    ≡ view_entries l.initial.out.items ++ behaviors_named (view_all_known l.known) (map syntax.view_behavior l.spelled) (map view_behavior l.run)
