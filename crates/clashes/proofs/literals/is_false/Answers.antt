use Rattle.std.proofs.Common.{rules}
use Rattle.term_forms.specs.Forms.{tree_of}
use Rattle.clashes.proofs.Shapes.{false_there}
use Rattle.clashes.proofs.literals.is_false.Goals as goal

pub returns : goal.returns
returns c =
    let tree = tree_of c.args.table.now in
    let node = c.node_at-node.result.now in
    false_there tree (tree c.args.place) node.head c.node_at-node.ensures.head node.kids.items c.node_at-node.ensures.kids c.if-not-says_false.ensures (search rules)
