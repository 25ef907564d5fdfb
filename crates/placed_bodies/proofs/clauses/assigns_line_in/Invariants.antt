use Rattle.std.proofs.Common.{◌≡◌, map, drop}
use Rattle.acsl_clauses.specs.Typed.{view_clause}
use Rattle.c_programs.specs.Clauses.{assigns_line_in}
use Rattle.placed_bodies.proofs.clauses.assigns_line_in.Given as goal

abbrev pub invariant-loop-i : goal.invariant-loop-i
invariant-loop-i l = assigns_line_in (map view_clause (drop l.i l.clauses)) ≡ assigns_line_in (map view_clause l.clauses)
