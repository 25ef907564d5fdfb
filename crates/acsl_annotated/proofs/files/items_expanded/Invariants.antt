use Rattle.std.proofs.Common.{◌≡◌, ◌++◌, drop, map}
use Rattle.acsl_typing.specs.Annotations.{view_annotation}
use Rattle.acsl_expand.specs.Expansion.{view_all}
use Rattle.acsl_annotated.specs.Annotated.{items_from}
use Rattle.acsl_annotated.proofs.files.items_expanded.Given as goal

abbrev pub invariant-loop-i : goal.invariant-loop-i
invariant-loop-i l =
    map view_annotation l.made.items ++ items_from (view_all l.meant) l.definitions l.number (map view_annotation (drop l.i l.items)) ≡ items_from (view_all l.meant) l.definitions 0 (map view_annotation l.items)
