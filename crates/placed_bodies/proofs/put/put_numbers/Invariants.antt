use Rattle.std.proofs.Common.{◌≡◌, ◌++◌, map, drop}
use Rattle.typed_unit.specs.View.{view_declared}
use Rattle.c_programs.specs.Bodies.{number_of}
use Rattle.placed_bodies.proofs.put.put_numbers.Given as goal

abbrev pub invariant-loop-i : goal.invariant-loop-i
invariant-loop-i l = l.numbers ++ map number_of (map view_declared (drop l.i l.locals)) ≡ l.initial.numbers ++ map number_of (map view_declared l.locals)
