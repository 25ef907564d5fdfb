use Rattle.std.proofs.Common.{◌≡◌, [], drop, map}
use Rattle.typed_unit.specs.View.{view_part}
use Rattle.binder_names.specs.Binders.{known_behind}
use Rattle.binder_tables.specs.View.{view_all_known}
use Rattle.binder_tables.proofs.known.known_in.Given as goal

abbrev pub invariant-loop-at : goal.invariant-loop-at
invariant-loop-at l = known_behind (view_all_known l.known.items) (map view_part (drop l.at l.parts)) ≡ known_behind [] (map view_part l.parts)
