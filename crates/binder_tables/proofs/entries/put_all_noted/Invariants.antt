use Rattle.std.proofs.Common.{◌≡◌, ◌++◌, drop, map}
use Rattle.binder_names.specs.Tables.{notes_named}
use Rattle.binder_tables.specs.View.{all_claimed, all_notes, view_all_known, view_entries}
use Rattle.binder_tables.proofs.entries.put_all_noted.Given as goal

abbrev pub invariant-loop-at : goal.invariant-loop-at
invariant-loop-at l =
    view_entries l.out.items ++ notes_named (view_all_known l.known) (all_notes (drop l.at l.notes)) (all_claimed (drop l.at l.claimed))
    ≡ view_entries l.initial.out.items ++ notes_named (view_all_known l.known) (all_notes l.notes) (all_claimed l.claimed)
