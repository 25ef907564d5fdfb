use Rattle.std.proofs.Common.{map, refl, arith, rules}
use Rattle.c_syntax.specs.View as syntax
use Rattle.program_trees.specs.View.{view_behavior}
use Rattle.binder_names.specs.Tables.{behaviors_named}
use Rattle.binder_tables.specs.View.{view_all_known}
use Rattle.binder_tables.proofs.Gathering.{zip_done, no_behaviors}
use Rattle.binder_tables.proofs.entries.put_behaviors.Goals as goal

pub returns : goal.returns
returns c =
    let ks = view_all_known c.args.known.now in
    zip_done (λ us ws. behaviors_named ks (map syntax.view_behavior us) (map view_behavior ws)) c.args.spelled.now c.args.run.now c.loop-at.at _ _ (λ us. refl)
    (no_behaviors ks) (first_of (search rules, grind (arith, c.min-at-end.ensures, c.loop-at-test.false))) c.loop-at.invariant
