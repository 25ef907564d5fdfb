use Rattle.std.proofs.Common.{◌≡◌, ◌++◌, drop, map}
use Rattle.acsl_clauses.specs.Items.{view_item, merged}
use Rattle.acsl_clauses.proofs.merging.merged.Given as goal

abbrev pub invariant-loop-i : goal.invariant-loop-i
invariant-loop-i l = map view_item l.items.items ++ merged (map view_item (drop l.i l.first)) (map view_item (drop l.next l.second)) ≡ merged (map view_item l.first) (map view_item l.second)
