use Rattle.std.proofs.Common.{◌≡◌, ◌++◌, drop, map}
use Rattle.typed_unit.specs.View.{view_stmts}
use Rattle.binder_names.specs.Notes as spec
use Rattle.binder_tables.specs.View.{all_notes}
use Rattle.binder_tables.proofs.notes.+put_notes.Given as goal

abbrev pub invariant-put_all_notes-loop-at : goal.invariant-put_all_notes-loop-at
invariant-put_all_notes-loop-at l = all_notes l.out.items ++ spec.all_notes (view_stmts (drop l.at l.stmts)) ≡ all_notes l.initial.out.items ++ spec.all_notes (view_stmts l.stmts)
