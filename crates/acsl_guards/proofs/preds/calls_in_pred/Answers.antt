use Rattle.std.proofs.Common.{[]}
use Rattle.c_syntax.specs.View.{view_pred}
use Rattle.acsl_guards.specs.Recursive.{pred_calls}
use Rattle.acsl_guards.proofs.Calling.{found, turn}
use Rattle.acsl_guards.proofs.preds.calls_in_pred.Goals as goal

pub returns-then-branch : goal.returns-then-branch
returns-then-branch c =
    found c.loop-part.left.items c.pop.new.self.items [] c.in-Some.part c.args.name.now (pred_calls c.args.name.now (view_pred c.args.pred.now)) c.in_ok-own_calls.field-0
    c.in-Some.ensures.items c.in_ok-own_calls.ensures c.if-branch.true c.loop-part.invariant

pub loop-part-preserved : goal.loop-part-preserved
loop-part-preserved c =
    turn c.loop-part.left.items c.pop.new.self.items c.put_parts.new.left.items c.in-Some.part c.args.name.now (pred_calls c.args.name.now (view_pred c.args.pred.now)) c.in_ok-own_calls.field-0
    c.in-Some.ensures.items c.in_ok-own_calls.ensures c.if-branch.false c.in_ok-put_parts.ensures c.loop-part.invariant
