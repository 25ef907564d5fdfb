use Rattle.std.proofs.Common.{◌≡◌, drop}
use Rattle.std.specs.List.{list_all}
use Rattle.binder_names.specs.Tables.{has_names}
use Rattle.binder_tables.specs.View.{view_entries}
use Rattle.binder_tables.proofs.tables.all_have_names.Given as goal

abbrev pub invariant-loop-at : goal.invariant-loop-at
invariant-loop-at l = list_all has_names (view_entries (drop l.at l.entries)) ≡ list_all has_names (view_entries l.entries)
