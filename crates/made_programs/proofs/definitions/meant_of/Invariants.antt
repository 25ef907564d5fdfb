use Rattle.std.proofs.Common.{◌≡◌, ◌++◌, map, drop}
use Rattle.acsl_annotated.specs.Annotated.{meant_from}
use Rattle.acsl_expand.specs.Expansion.{view_all}
use Rattle.acsl_typing.specs.Annotations.{view_annotation}
use Rattle.made_programs.proofs.definitions.meant_of.Given as goal

abbrev pub invariant-loop-i : goal.invariant-loop-i
invariant-loop-i l = view_all l.meant ++ meant_from l.definitions l.number (map view_annotation (drop l.i l.items)) ≡ meant_from l.definitions 0 (map view_annotation l.items)
