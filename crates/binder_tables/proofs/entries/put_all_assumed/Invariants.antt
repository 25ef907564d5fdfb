use Rattle.std.proofs.Common.{◌≡◌, ◌++◌, drop, map}
use Rattle.c_syntax.specs.View.{view_clause}
use Rattle.acsl_trees.specs.Tree.{view_trees}
use Rattle.binder_names.specs.Notes.{preds_of}
use Rattle.binder_names.specs.Tables.{trees_named}
use Rattle.binder_tables.specs.View.{view_all_known, view_entries}
use Rattle.binder_tables.proofs.entries.put_all_assumed.Given as goal

abbrev pub invariant-loop-at : goal.invariant-loop-at
invariant-loop-at l =
    view_entries l.out.items ++ trees_named (view_all_known l.known) (preds_of (map view_clause (drop l.at l.clauses))) (view_trees (drop l.at l.trees))
    ≡ view_entries l.initial.out.items ++ trees_named (view_all_known l.known) (preds_of (map view_clause l.clauses)) (view_trees l.trees)
