use Rattle.std.proofs.Common.{◌++◌, ap, ◌∙◌}
use Rattle.std.specs.Option.{option_to_list}
use Rattle.c_taken.specs.Addressed.{addressed, last_first}
use Rattle.c_taken.specs.Pieces.{pointed, exprs_in}
use Rattle.c_taken.proofs.Gathering.{expr_turn}
use Rattle.c_taken.proofs.exprs.names_in.Goals as goal

pub loop-expr-preserved : goal.loop-expr-preserved
loop-expr-preserved c =
    expr_turn c.loop-expr.left.items c.pop.new.self.items c.put_parts.new.left.items c.in-Some.expr (pointed c.loop-expr.names.items) (pointed c.put_name.new.names.items)
    (last_first addressed (exprs_in c.args.left.items)) c.in-Some.ensures.items
    (c.in_ok-put_name.ensures ∙ ap (λ o. pointed c.loop-expr.names.items ++ option_to_list o) c.own_name.ensures) c.in_ok-put_parts.ensures c.loop-expr.invariant
