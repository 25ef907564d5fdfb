use Rattle.std.proofs.Common.{◌≡◌, ◌++◌, drop, map}
use Rattle.binder_tables.proofs.binders.put_names.Given as goal

abbrev pub invariant-loop-at : goal.invariant-loop-at
invariant-loop-at l = l.out ++ drop l.at l.names ≡ l.initial.out ++ l.names
