use Rattle.std.proofs.Common.{◌≡◌, map, take}
use Rattle.c_syntax.specs.View.{view_var}
use Rattle.c_taken.specs.Addressed.{vars_addressed}
use Rattle.c_taken.specs.Pieces.{pointed}
use Rattle.c_taken.proofs.exprs.names_in_vars.Given as goal

abbrev pub invariant-loop-var : goal.invariant-loop-var
invariant-loop-var l = pointed l.names.items ≡ vars_addressed (map view_var (take l.var-index l.vars))
