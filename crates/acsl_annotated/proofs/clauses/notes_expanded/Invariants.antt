use Rattle.std.proofs.Common.{◌≡◌, ◌++◌, drop, map}
use Rattle.acsl_notes.specs.Notes.{view_note}
use Rattle.acsl_expand.specs.Expansion.{view_all}
use Rattle.acsl_annotated.specs.Annotated.{note_expanded}
use Rattle.acsl_annotated.proofs.clauses.notes_expanded.Given as goal

abbrev pub invariant-loop-i : goal.invariant-loop-i
invariant-loop-i l = map view_note l.made.items ++ map (note_expanded (view_all l.meant)) (map view_note (drop l.i l.notes)) ≡ map (note_expanded (view_all l.meant)) (map view_note l.notes)
