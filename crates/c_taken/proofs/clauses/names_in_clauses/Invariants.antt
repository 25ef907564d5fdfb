use Rattle.std.proofs.Common.{◌≡◌, map, take}
use Rattle.c_syntax.specs.View.{view_clause}
use Rattle.c_taken.specs.Addressed.{clauses_addressed}
use Rattle.c_taken.specs.Pieces.{pointed}
use Rattle.c_taken.proofs.clauses.names_in_clauses.Given as goal

abbrev pub invariant-loop-clause : goal.invariant-loop-clause
invariant-loop-clause l = pointed l.names.items ≡ clauses_addressed (map view_clause (take l.clause-index l.clauses))
