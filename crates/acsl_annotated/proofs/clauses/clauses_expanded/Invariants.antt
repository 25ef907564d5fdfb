use Rattle.std.proofs.Common.{◌≡◌, ◌++◌, drop, map}
use Rattle.acsl_clauses.specs.Typed.{view_clause}
use Rattle.acsl_expand.specs.Expansion.{view_all}
use Rattle.acsl_annotated.specs.Annotated.{clause_expanded}
use Rattle.acsl_annotated.proofs.clauses.clauses_expanded.Given as goal

abbrev pub invariant-loop-i : goal.invariant-loop-i
invariant-loop-i l =
    map view_clause l.made.items ++ map (clause_expanded (view_all l.meant)) (map view_clause (drop l.i l.clauses)) ≡ map (clause_expanded (view_all l.meant)) (map view_clause l.clauses)
