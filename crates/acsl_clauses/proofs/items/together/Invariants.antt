use Rattle.std.proofs.Common.{◌≡◌, ◌++◌, drop, map}
use Rattle.acsl_clauses.specs.Items.{view_item}
use Rattle.acsl_clauses.specs.Items as spec
use Rattle.acsl_clauses.proofs.items.together.Given as goal

abbrev pub invariant-loop-i : goal.invariant-loop-i
invariant-loop-i l = map view_item l.items.items ++ map (spec.together l.group) (drop l.i l.names) ≡ map (spec.together l.group) l.names
