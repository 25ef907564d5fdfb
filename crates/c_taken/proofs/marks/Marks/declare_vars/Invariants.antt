use Rattle.std.proofs.Common.{◌≡◌, drop, map}
use Rattle.c_syntax.specs.View.{view_var}
use Rattle.c_taken.specs.Walks.{vars_walked}
use Rattle.c_taken.proofs.marks.Marks.declare_vars.Given as goal

-- with those that are left, all are declared
abbrev pub invariant-loop-var : goal.invariant-loop-var
invariant-loop-var l = vars_walked (map view_var (drop l.var-index l.vars)) l.self ≡ vars_walked (map view_var l.vars) l.initial.self
