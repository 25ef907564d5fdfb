use Rattle.std.proofs.Common.{◌≡◌, ◌++◌, drop}
use Rattle.core_trees.specs.View.{view_variables}
use Rattle.c_programs.specs.Files.{variables_from}
use Rattle.made_programs.proofs.variables.variables_of.Given as goal

abbrev pub invariant-loop-i : goal.invariant-loop-i
invariant-loop-i l = view_variables l.made ++ variables_from l.structs l.plain l.valued l.i (drop l.i l.objects) ≡ variables_from l.structs l.plain l.valued 0 l.objects
