use Rattle.std.proofs.Common.{◌≡◌, ◌++◌, map, drop}
use Rattle.c_programs.specs.Files.{cells_in}
use Rattle.made_programs.proofs.programs.structs_of.Given as goal

abbrev pub invariant-loop-i : goal.invariant-loop-i
invariant-loop-i l = l.made ++ map cells_in (drop l.i l.structs) ≡ map cells_in l.structs
