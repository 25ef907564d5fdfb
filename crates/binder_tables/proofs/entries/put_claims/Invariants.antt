use Rattle.std.proofs.Common.{◌≡◌, ◌++◌, drop, map}
use Rattle.c_syntax.specs.View.{view_clause}
use Rattle.core_trees.specs.View.{view_claim}
use Rattle.binder_names.specs.Notes.{preds_of}
use Rattle.binder_names.specs.Tables.{claims_named}
use Rattle.binder_tables.specs.View.{view_all_known, view_entries}
use Rattle.binder_tables.proofs.entries.put_claims.Given as goal

abbrev pub invariant-loop-at : goal.invariant-loop-at
invariant-loop-at l =
    view_entries l.out.items ++ claims_named (view_all_known l.known) (preds_of (map view_clause (drop l.at l.clauses))) (map view_claim (drop l.at l.claims))
    ≡ view_entries l.initial.out.items ++ claims_named (view_all_known l.known) (preds_of (map view_clause l.clauses)) (map view_claim l.claims)
