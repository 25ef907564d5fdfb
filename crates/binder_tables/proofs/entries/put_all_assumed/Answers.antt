use Rattle.std.proofs.Common.{map, refl, arith, rules}
use Rattle.c_syntax.specs.View.{view_clause}
use Rattle.acsl_trees.specs.Tree.{view_trees}
use Rattle.binder_names.specs.Notes.{preds_of}
use Rattle.binder_names.specs.Tables.{trees_named}
use Rattle.binder_tables.specs.View.{view_all_known}
use Rattle.binder_tables.proofs.Gathering.{zip_done, no_trees}
use Rattle.binder_tables.proofs.entries.put_all_assumed.Goals as goal

pub returns : goal.returns
returns c =
    let ks = view_all_known c.args.known.now in
    zip_done (λ us ws. trees_named ks (preds_of (map view_clause us)) (view_trees ws)) c.args.clauses.now c.args.trees.now c.loop-at.at _ _ (λ us. refl) (no_trees ks)
    (first_of (search rules, grind (arith, c.min-at-end.ensures, c.loop-at-test.false))) c.loop-at.invariant
