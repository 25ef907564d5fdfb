use Rattle.std.proofs.Common.{◌≡◌, drop, map}
use Rattle.acsl_names.specs.Names.{view_around}
use Rattle.acsl_clauses.specs.Each.{each, onto}
use Rattle.acsl_clauses.specs.Items.{view_item}
use Rattle.acsl_clauses.specs.Typed.{view_clause}
use Rattle.acsl_clauses.specs.Clauses.{clause_typed, clauses_typed}
use Rattle.acsl_clauses.proofs.clauses.clauses_typed.Given as goal

abbrev pub invariant-loop-i : goal.invariant-loop-i
invariant-loop-i l =
    onto (map view_clause l.clauses.items) (each (clause_typed (view_around l.around)) l.known (map view_item (drop l.i l.items)))
    ≡ clauses_typed (view_around l.around) l.initial.known (map view_item l.items)
