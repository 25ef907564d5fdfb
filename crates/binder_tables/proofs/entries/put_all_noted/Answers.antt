use Rattle.std.proofs.Common.{refl, arith, rules}
use Rattle.binder_names.specs.Tables.{notes_named}
use Rattle.binder_tables.specs.View.{all_claimed, all_notes, view_all_known}
use Rattle.binder_tables.proofs.Gathering.{zip_done, no_notes}
use Rattle.binder_tables.proofs.entries.put_all_noted.Goals as goal

pub returns : goal.returns
returns c =
    let ks = view_all_known c.args.known.now in
    zip_done (λ us ws. notes_named ks (all_notes us) (all_claimed ws)) c.args.notes.now c.args.claimed.now c.loop-at.at _ _ (λ us. refl) (no_notes ks)
    (first_of (search rules, grind (arith, c.min-at-end.ensures, c.loop-at-test.false))) c.loop-at.invariant
