use Rattle.std.proofs.Common.{◌≡◌, drop, map}
use Rattle.c_syntax.specs.View.{view_var}
use Rattle.c_functions.specs.Functions.{params}
use Rattle.c_functions.proofs.params.params.Given as goal

-- those to come, behind those that are declared, are all
abbrev pub invariant-loop-i : goal.invariant-loop-i
invariant-loop-i l = params l.context (map view_var (drop l.i l.decls)) ≡ params l.initial.context (map view_var l.decls)
