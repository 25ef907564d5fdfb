use Rattle.std.proofs.Common.{◌≡◌, ◌++◌, drop}
use Rattle.typed_unit.specs.View.{view_stmts}
use Rattle.c_programs.specs.Bodies.{variables_in}
use Rattle.placed_bodies.proofs.put.variables_in.Given as goal

abbrev pub invariant-loop-i : goal.invariant-loop-i
invariant-loop-i l = l.numbers ++ variables_in (view_stmts (drop l.i l.body)) ≡ variables_in (view_stmts l.body)
