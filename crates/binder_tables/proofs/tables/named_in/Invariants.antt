use Rattle.std.proofs.Common.{◌≡◌, drop}
use Rattle.acsl_trees.specs.Tree.{view_tree}
use Rattle.binder_names.specs.Tables.{named_in}
use Rattle.binder_tables.specs.View.{view_entries}
use Rattle.binder_tables.proofs.tables.named_in.Given as goal

abbrev pub invariant-loop-at : goal.invariant-loop-at
invariant-loop-at l = named_in (view_entries (drop l.at l.entries)) (view_tree l.tree) ≡ named_in (view_entries l.entries) (view_tree l.tree)
