use Rattle.std.proofs.Common.{◌≡◌, drop, map}
use Rattle.c_syntax.specs.View.{view_var}
use Rattle.acsl_names.specs.Names.{view_around}
use Rattle.acsl_preds.specs.Binders as spec
use Rattle.acsl_preds.proofs.binders.binders.Given as goal

abbrev pub invariant-loop-i : goal.invariant-loop-i
invariant-loop-i l =
    spec.behind l.found (spec.binders (view_around l.around) l.names (map view_var (drop l.i l.decls)) (drop l.i l.guards))
    ≡ spec.binders (view_around l.around) l.initial.names (map view_var l.decls) l.guards
