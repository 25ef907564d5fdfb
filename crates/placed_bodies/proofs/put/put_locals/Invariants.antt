use Rattle.std.proofs.Common.{◌≡◌, map, drop}
use Rattle.typed_unit.specs.View.{view_declared}
use Rattle.c_programs.specs.Bodies.{then_, initials, declared_behind}
use Rattle.program_trees.specs.View.{view_stmts}
use Rattle.placed_bodies.proofs.put.put_locals.Given as goal

abbrev pub invariant-loop-i : goal.invariant-loop-i
invariant-loop-i l =
    (then_ (view_stmts l.out) (initials (map view_declared (drop l.i l.locals))) ≡ then_ (view_stmts l.initial.out) (initials (map view_declared l.locals)))
    × (declared_behind l.declared (map view_declared (drop l.i l.locals)) ≡ declared_behind l.left.declared (map view_declared l.locals))
