use Rattle.std.proofs.Common.{◌≡◌, drop, map}
use Rattle.typed_unit.specs.View.{view_part, view_typed}
use Rattle.acsl_typing.specs.Annotations.{view_annotating, parts_annotated}
use Rattle.acsl_typing.proofs.files.parts_annotated.Given as goal

abbrev pub invariant-loop-i : goal.invariant-loop-i
invariant-loop-i l =
    parts_annotated (view_typed l.typed) (view_annotating l.so_far) (map view_part (drop l.i l.parts)) ≡ parts_annotated (view_typed l.typed) (view_annotating l.initial.so_far) (map view_part l.parts)
