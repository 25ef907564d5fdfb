use Rattle.std.proofs.Common.{◌≡◌, ◌++◌, map, drop}
use Rattle.std.specs.Option.{option_map}
use Rattle.acsl_typing.specs.Annotations.{view_annotations}
use Rattle.typed_unit.specs.View.{view_typed}
use Rattle.program_trees.specs.View.{view_function}
use Rattle.c_programs.specs.Files.{functions_from}
use Rattle.made_programs.proofs.programs.functions_of.Given as goal

abbrev pub invariant-loop-i : goal.invariant-loop-i
invariant-loop-i l =
    map (option_map view_function) l.made ++ functions_from (view_typed l.typed) (view_annotations l.annotations) l.i (drop l.i l.signatures)
    ≡ functions_from (view_typed l.typed) (view_annotations l.annotations) 0 l.signatures
