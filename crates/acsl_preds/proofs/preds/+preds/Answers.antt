use Rattle.std.proofs.Common.{map}
use Rattle.c_syntax.specs.View.{view_pred, view_var}
use Rattle.acsl_names.specs.Names.{view_around}
use Rattle.acsl_preds.proofs.Quantifying.{binders_left}
use Rattle.acsl_preds.proofs.preds.+preds.Goals as goal

pub quantifier-returns-clause-names : goal.quantifier-returns-clause-names
quantifier-returns-clause-names t c =
    binders_left (view_around c.args.around.now) _ c.args.for_all (map view_var c.args.decls.now) (view_pred c.args.inside.now) c.in_ok-overs.overs c.args.names.now c.binders_typed.new.names c.typed_pred.new.names c.leave.new.names
    c.len-known.result c.in_ok-overs.ensures c.in_ok-body.ensures.names c.len-known.ensures c.leave.ensures
