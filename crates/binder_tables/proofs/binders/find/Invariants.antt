use Rattle.std.proofs.Common.{◌≡◌, ◌++◌, drop, map}
use Rattle.binder_names.specs.Binders.{found}
use Rattle.binder_tables.specs.View.{view_all_known}
use Rattle.binder_tables.proofs.binders.find.Given as goal

abbrev pub invariant-loop-at : goal.invariant-loop-at
invariant-loop-at l = found (view_all_known (drop l.at l.known)) l.name ≡ found (view_all_known l.known) l.name
