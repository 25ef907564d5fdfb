use Rattle.acsl_guards.proofs.PredParts.{leaf_put}
use Rattle.acsl_guards.proofs.preds.put_parts.Goals as goal

pub returns-in-Leaf : goal.returns-in-Leaf
returns-in-Leaf c = leaf_put c.args.left.now.items c.args.left.now.items c.args.pred.now.node c.args.pred.now.line c.in-Leaf.field-0 c.in-Leaf.ensures
