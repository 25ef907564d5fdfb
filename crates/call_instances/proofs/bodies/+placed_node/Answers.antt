use Rattle.std.proofs.Common.{◌<◌, ◌≤◌, length, ap, arith}
use Rattle.qed_terms.specs.Tree.{size}
use Rattle.qed_terms.specs.Nodes.{node_tree, kids_of}
use Rattle.qed_terms.proofs.Sizes.{size-kid}
use Rattle.qed_calls.specs.View.{params}
use Rattle.call_instances.proofs.BodyLaws.{node_placed}
use Rattle.call_instances.proofs.bodies.+placed_node.Goals as goal

pub placed_node-requires : goal.placed_node-requires
placed_node-requires t c =
    let k : c.loop-at.at < length (kids_of (node_tree c.args.node)) = omega (arith, c.loop-at-test.true, c.kid_count-kid_count.ensures) in
    let smaller = size-kid (node_tree c.args.node) c.loop-at.at k in
    let e = ap size c.kid.ensures in
    (omega (arith, smaller, e, c.decreases), tt)

pub returns : goal.returns
returns t c f =
    let all : length (kids_of (node_tree c.args.node)) ≤ c.loop-at.at = omega (arith, c.loop-at-test.false, c.kid_count-kid_count.ensures) in
    node_placed (params c.args.names.now) c.args.count c.args.node c.in_ok-head.head c.loop-at.kids c.loop-at.at c.placed_over.result c.loop-at.invariant all c.in_ok-head.ensures c.placed_over.ensures f
