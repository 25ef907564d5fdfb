use Rattle.std.proofs.Common.{◌≡◌, map, drop}
use Rattle.typed_unit.specs.View.{view_part}
use Rattle.acsl_typing.specs.Annotations.{view_annotation}
use Rattle.c_programs.specs.Files.{clauses_for}
use Rattle.made_programs.proofs.annotated.clauses_for.Given as goal

abbrev pub invariant-loop-i : goal.invariant-loop-i
invariant-loop-i l =
    clauses_for l.function (map view_part (drop l.i l.parts)) (map view_annotation (drop l.i l.items)) ≡ clauses_for l.function (map view_part l.parts) (map view_annotation l.items)
