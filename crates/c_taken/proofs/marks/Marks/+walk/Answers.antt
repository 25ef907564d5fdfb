use Rattle.c_taken.proofs.Walking.{if_on_ok}
use Rattle.c_taken.proofs.marks.Marks.+walk.Goals as goal

pub walk-returns-in_ok-walk-in-If : goal.walk-returns-in_ok-walk-in-If
walk-returns-in_ok-walk-in-If t c =
    if_on_ok c.walk_else.result c.args.stmt.now c.in-If.test c.in-If.body c.get.result.now c.in-If.other c.args.self.now c.mark_expr-in-If.new.self c.walk.new.self c.walk_else.new.self
    c.in-If.is c.in_ok-mark_expr-in-If.ensures c.get.ensures c.in_ok-walk-in-If.ensures c.walk_else.ensures
