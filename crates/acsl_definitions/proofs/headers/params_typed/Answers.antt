use Rattle.std.proofs.lemmas.Result.{err_from_is_err_and}
use Rattle.acsl_names.specs.Names.{view_around}
use Rattle.acsl_definitions.proofs.Params.{param_fault}
use Rattle.acsl_definitions.proofs.headers.params_typed.Goals as goal

pub returns-in_err-param_typed : goal.returns-in_err-param_typed
returns-in_err-param_typed c =
    let fault = err_from_is_err_and c.from_residual-in_err-param_typed.result c.from_residual-in_err-param_typed.ensures.1 in
    let around = view_around c.args.around.now in
    rw (fault.1, fault.2)
    (param_fault around {V = Unit {0}} (λ _. c.param_typed.new.names) (λ names. names) c.loop-param.names c.args.params.now c.loop-param.param-index
    c.param-item.result _ _ c.loop-param-test.true c.param-item.is c.in_err-param_typed.ensures c.loop-param.invariant)
