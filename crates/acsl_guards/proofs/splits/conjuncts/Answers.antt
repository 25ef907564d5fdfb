use Rattle.c_syntax.specs.View.{view_pred}
use Rattle.acsl_guards.specs.Guarding as spec
use Rattle.acsl_guards.proofs.Taking.{apart_turn}
use Rattle.acsl_guards.proofs.splits.conjuncts.Goals as goal

pub loop-part-preserved-in-Continue-branch-2 : goal.loop-part-preserved-in-Continue-branch-2
loop-part-preserved-in-Continue-branch-2 c =
    apart_turn c.loop-part.left.items c.pop.new.self.items c.in-Some.part c.put_two.new.left.items c.in-Some-sides.first c.in-Some-sides.second c.loop-part.found.items
    (spec.conjuncts (view_pred c.args.pred.now)) c.in-Some.ensures.items c.in-Some-sides.ensures c.in_ok-put_two-in-Some-sides.ensures c.loop-part.invariant
