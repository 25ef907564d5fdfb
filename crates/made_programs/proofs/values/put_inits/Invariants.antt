use Rattle.std.proofs.Common.{◌≡◌, ◌++◌, map, drop}
use Rattle.typed_unit.specs.View.{view_declared}
use Rattle.c_programs.specs.Bodies.{has_init}
use Rattle.made_programs.proofs.values.put_inits.Given as goal

abbrev pub invariant-loop-i : goal.invariant-loop-i
invariant-loop-i l = l.out ++ map has_init (map view_declared (drop l.i l.locals)) ≡ l.initial.out ++ map has_init (map view_declared l.locals)
