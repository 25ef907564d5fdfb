use Rattle.std.proofs.Common.{◌≡◌, ◌++◌, drop, map}
use Rattle.c_syntax.specs.View.{view_clause}
use Rattle.acsl_clauses.specs.Items.{claim, view_item}
use Rattle.acsl_clauses.proofs.items.claims.Given as goal

abbrev pub invariant-loop-i : goal.invariant-loop-i
invariant-loop-i l = map view_item l.items.items ++ map (claim l.role) (map view_clause (drop l.i l.clauses)) ≡ map (claim l.role) (map view_clause l.clauses)
