use Rattle.std.proofs.Common.{◌≡◌, drop, map}
use Rattle.c_syntax.specs.View.{view_var}
use Rattle.acsl_names.specs.Names.{view_around}
use Rattle.acsl_definitions.specs.Definitions as spec
use Rattle.acsl_definitions.proofs.headers.params_typed.Given as goal

abbrev pub invariant-loop-param : goal.invariant-loop-param
invariant-loop-param l =
    spec.params_typed (view_around l.around) l.names (map view_var (drop l.param-index l.params))
    ≡ spec.params_typed (view_around l.around) spec.no_params (map view_var l.params)
