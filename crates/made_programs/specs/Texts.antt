-- Bodies with their annotations, in memory.
use Rattle.std.specs.Prelude.{List, [], ◌∷◌, map, Option, Some, None}
use Rattle.std.specs.Borrow.{Bor}
use Rattle.typed_unit.specs.Unit as u
use Rattle.typed_unit.specs.View.{view_body}
use Rattle.acsl_notes.specs.declared.notes.Note.{Note as Code}
use Rattle.acsl_notes.specs.Notes.{Note, view_note}
use Rattle.c_programs.specs.Files as spec
use Rattle.made_programs.specs.declared.annotated.Text.{Text}

abbrev pub notes_seen : Bor (List Code) → List Note
notes_seen ns = map view_note ns.now

abbrev pub all_notes : List (Bor (List Code)) → List (List Note)
all_notes nss = map notes_seen nss

abbrev pub some_notes : Option (Bor (List Code)) → List (List Note)
some_notes None = []
some_notes (Some ns) = notes_seen ns ∷ []

abbrev pub view_text : Text → spec.Text
view_text x = record { body = view_body x.body.now; notes = notes_seen x.notes }

abbrev pub text_by : u.Body → Option (List Note) → Option spec.Text
text_by b None = None
text_by b (Some ns) = Some (record { body = b; notes = ns })
