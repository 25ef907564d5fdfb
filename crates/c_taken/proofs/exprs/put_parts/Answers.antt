use Rattle.c_taken.proofs.Shapes.{leaf_put}
use Rattle.c_taken.proofs.exprs.put_parts.Goals as goal

pub returns-in-Leaf : goal.returns-in-Leaf
returns-in-Leaf c = leaf_put c.args.left.now.items c.args.left.now.items c.args.expr.now.node c.args.expr.now.line c.in-Leaf.field-0 c.in-Leaf.ensures
