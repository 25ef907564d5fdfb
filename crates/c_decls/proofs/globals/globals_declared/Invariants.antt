use Rattle.std.proofs.Common.{◌≡◌, map, drop}
use Rattle.c_syntax.specs.View.{view_var}
use Rattle.c_decls.specs.Each.{each}
use Rattle.c_decls.specs.Globals.{view_inits, global, globals_declared}
use Rattle.c_decls.proofs.globals.globals_declared.Given as goal

-- what is there, and the variables that are left, make the whole
abbrev pub invariant-loop-decl : goal.invariant-loop-decl
invariant-loop-decl l =
    each (global l.taken) (l.context, view_inits l.inits) (map view_var (drop l.decl-index l.decls)) ≡ globals_declared l.fn.taken l.fn.context (view_inits l.fn.inits) (map view_var l.fn.decls)
