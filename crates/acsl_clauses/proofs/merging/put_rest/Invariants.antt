use Rattle.std.proofs.Common.{◌≡◌, ◌-◌, ◌++◌, drop, map, length}
use Rattle.acsl_clauses.specs.Items.{view_item}
use Rattle.acsl_clauses.proofs.merging.put_rest.Given as goal

abbrev pub invariant-loop-next : goal.invariant-loop-next
invariant-loop-next l = map view_item l.items.items ++ map view_item (drop l.next l.others) ≡ map view_item l.initial.items.items ++ map view_item (drop l.from l.others)

abbrev pub decreases-loop-next : goal.decreases-loop-next
decreases-loop-next l = length l.others - l.next
