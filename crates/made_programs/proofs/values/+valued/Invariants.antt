use Rattle.std.proofs.Common.{◌≡◌, ◌++◌, drop}
use Rattle.typed_unit.specs.View.{view_stmts}
use Rattle.c_programs.specs.Bodies.{all_valued}
use Rattle.made_programs.proofs.values.+valued.Given as goal

abbrev pub invariant-put_all_valued-loop-i : goal.invariant-put_all_valued-loop-i
invariant-put_all_valued-loop-i l = l.out ++ all_valued (view_stmts (drop l.i l.stmts)) ≡ l.initial.out ++ all_valued (view_stmts l.stmts)
