use Rattle.std.proofs.Common.{[], ◌∷◌, ◌++◌, refl}
use Rattle.c_syntax.specs.View.{view_pred}
use Rattle.c_taken.specs.Pieces.{look, tasks_in}
use Rattle.c_taken.proofs.PredShapes.{leaf_put, one_put, two_put, cond_put, moved_ok}
use Rattle.c_taken.proofs.preds.put_parts.Goals as goal

pub returns-in-Leaf : goal.returns-in-Leaf
returns-in-Leaf c = leaf_put (tasks_in c.args.left.now.items) c.args.pred.now.node c.args.pred.now.line c.in-Leaf.field-0 c.in-Leaf.ensures

pub returns-in-One : goal.returns-in-One
returns-in-One c =
    moved_ok c.put.result (tasks_in c.put.new.left.items) _ _
    (one_put (tasks_in c.args.left.now.items) c.args.pred.now.node c.args.pred.now.line (tasks_in c.args.left.now.items ++ look (view_pred c.get.result.now) ∷ []) c.in-One.field-0
    c.in-One.part.now c.get.result.now c.in-One.ensures c.get.ensures refl)
    c.put.ensures

pub returns-in_ok-put-in-Two : goal.returns-in_ok-put-in-Two
returns-in_ok-put-in-Two c =
    moved_ok c.put-in-Two-2.result (tasks_in c.put-in-Two-2.new.left.items) _ _
    (two_put (tasks_in c.args.left.now.items) c.args.pred.now.node c.args.pred.now.line (tasks_in c.put-in-Two.new.left.items)
    (tasks_in c.put-in-Two.new.left.items ++ look (view_pred c.get-in-Two-2.result.now) ∷ []) c.in-Two.field-0 c.in-Two.first.now c.in-Two.second.now c.get-in-Two.result.now
    c.get-in-Two-2.result.now c.in-Two.ensures c.get-in-Two.ensures c.get-in-Two-2.ensures c.in_ok-put-in-Two.ensures refl)
    c.put-in-Two-2.ensures

pub returns-in_ok-put-in-Cond-2 : goal.returns-in_ok-put-in-Cond-2
returns-in_ok-put-in-Cond-2 c =
    moved_ok c.put-in-Cond-3.result (tasks_in c.put-in-Cond-3.new.left.items) _ _
    (cond_put (tasks_in c.args.left.now.items) c.args.pred.now.node c.args.pred.now.line (tasks_in c.put-in-Cond.new.left.items) (tasks_in c.put-in-Cond-2.new.left.items)
    (tasks_in c.put-in-Cond-2.new.left.items ++ look (view_pred c.get-in-Cond-3.result.now) ∷ []) c.in-Cond.test.now c.in-Cond.first.now c.in-Cond.second.now
    c.get-in-Cond.result.now c.get-in-Cond-2.result.now c.get-in-Cond-3.result.now c.in-Cond.ensures c.get-in-Cond.ensures c.get-in-Cond-2.ensures c.get-in-Cond-3.ensures
    c.in_ok-put-in-Cond.ensures c.in_ok-put-in-Cond-2.ensures refl)
    c.put-in-Cond-3.ensures
