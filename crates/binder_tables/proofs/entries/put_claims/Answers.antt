use Rattle.std.proofs.Common.{map, refl, arith, rules}
use Rattle.c_syntax.specs.View.{view_clause}
use Rattle.core_trees.specs.View.{view_claim}
use Rattle.binder_names.specs.Notes.{preds_of}
use Rattle.binder_names.specs.Tables.{claims_named}
use Rattle.binder_tables.specs.View.{view_all_known}
use Rattle.binder_tables.proofs.Gathering.{zip_done, no_claims}
use Rattle.binder_tables.proofs.entries.put_claims.Goals as goal

pub returns : goal.returns
returns c =
    let ks = view_all_known c.args.known.now in
    zip_done (λ us ws. claims_named ks (preds_of (map view_clause us)) (map view_claim ws)) c.args.clauses.now c.args.claims.now c.loop-at.at _ _ (λ us. refl) (no_claims ks)
    (first_of (search rules, grind (arith, c.min-at-end.ensures, c.loop-at-test.false))) c.loop-at.invariant
