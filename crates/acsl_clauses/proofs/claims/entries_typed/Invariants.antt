use Rattle.std.proofs.Common.{◌≡◌, drop, map}
use Rattle.c_syntax.specs.View.{view_term}
use Rattle.acsl_trees.specs.Tree.{view_tree}
use Rattle.acsl_names.specs.Names.{view_around}
use Rattle.acsl_clauses.specs.Each.{each, onto}
use Rattle.acsl_clauses.specs.Clauses.{entry_typed, entries_typed}
use Rattle.acsl_clauses.proofs.claims.entries_typed.Given as goal

abbrev pub invariant-loop-i : goal.invariant-loop-i
invariant-loop-i l =
    onto (map view_tree l.regions.items) (each (entry_typed (view_around l.around)) l.count (map view_term (drop l.i l.entries)))
    ≡ entries_typed (view_around l.around) l.initial.count (map view_term l.entries)
