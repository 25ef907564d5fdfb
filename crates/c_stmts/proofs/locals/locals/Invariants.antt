use Rattle.std.proofs.Common.{◌≡◌, drop, map}
use Rattle.c_syntax.specs.View.{view_var}
use Rattle.typed_unit.specs.View.{view_declared}
use Rattle.c_stmts.specs.Locals.{locals}
use Rattle.c_stmts.proofs.Declarators.{behind}
use Rattle.c_stmts.proofs.locals.locals.Given as goal

-- those that are declared, and those to come, are all
abbrev pub invariant-loop-i : goal.invariant-loop-i
invariant-loop-i l = behind (map view_declared l.done) (locals l.context (map view_var (drop l.i l.decls))) ≡ locals l.initial.context (map view_var l.decls)
