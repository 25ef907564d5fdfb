use Rattle.acsl_guards.proofs.TermParts.{leaf_put}
use Rattle.acsl_guards.proofs.terms.put_parts.Goals as goal

pub returns-in-Leaf : goal.returns-in-Leaf
returns-in-Leaf c = leaf_put c.args.left.now.items c.args.left.now.items c.args.term.now.node c.args.term.now.line c.in-Leaf.field-0 c.in-Leaf.ensures
