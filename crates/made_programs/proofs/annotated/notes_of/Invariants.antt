use Rattle.std.proofs.Common.{◌≡◌, ◌++◌, map, drop}
use Rattle.typed_unit.specs.View.{view_part}
use Rattle.acsl_typing.specs.Annotations.{view_annotation}
use Rattle.c_programs.specs.Files.{notes_of}
use Rattle.made_programs.specs.Texts.{all_notes}
use Rattle.made_programs.proofs.annotated.notes_of.Given as goal

abbrev pub invariant-loop-i : goal.invariant-loop-i
invariant-loop-i l =
    all_notes l.notes.items ++ notes_of (map view_part (drop l.i l.parts)) (map view_annotation (drop l.i l.items)) ≡ notes_of (map view_part l.parts) (map view_annotation l.items)
