use Rattle.std.proofs.Common.{◌≡◌, map, drop}
use Rattle.typed_unit.specs.View.{view_body}
use Rattle.c_programs.specs.Files.{text_of}
use Rattle.made_programs.specs.Texts.{all_notes}
use Rattle.made_programs.proofs.annotated.text_of.Given as goal

abbrev pub invariant-loop-i : goal.invariant-loop-i
invariant-loop-i l = text_of l.function (map view_body (drop l.i l.bodies)) (drop l.i (all_notes l.notes)) ≡ text_of l.function (map view_body l.bodies) (all_notes l.notes)
