use Rattle.std.proofs.Common.{◌≡◌, drop}
use Rattle.typed_unit.specs.View.{view_stmts}
use Rattle.acsl_notes.specs.Notes.{view_enclosing, view_noted, all_noted}
use Rattle.acsl_notes.proofs.walk.+notes.Given as goal

abbrev pub invariant-all_noted-loop-i : goal.invariant-all_noted-loop-i
invariant-all_noted-loop-i l =
    all_noted (view_enclosing l.enclosing) l.entry (view_noted l.so_far) (view_stmts (drop l.i l.body)) ≡ all_noted (view_enclosing l.enclosing) l.entry (view_noted l.initial.so_far) (view_stmts l.body)
