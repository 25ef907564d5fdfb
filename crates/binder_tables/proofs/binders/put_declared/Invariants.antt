use Rattle.std.proofs.Common.{◌≡◌, ◌++◌, drop, map}
use Rattle.c_syntax.specs.View.{view_var}
use Rattle.binder_names.specs.Binders.{name_of}
use Rattle.binder_tables.proofs.binders.put_declared.Given as goal

abbrev pub invariant-loop-at : goal.invariant-loop-at
invariant-loop-at l = l.out ++ map name_of (map view_var (drop l.at l.binders)) ≡ l.initial.out ++ map name_of (map view_var l.binders)
