use Rattle.qed_terms.specs.Tree.{size}
use Rattle.qed_terms.specs.Nodes.{node_tree, kids_of}
use Rattle.qed_calls.specs.View.{params}
use Rattle.call_instances.proofs.BodyLaws.{PlacedSoFar}
use Rattle.call_instances.proofs.bodies.+placed_node.Given as goal

abbrev pub decreases-placed_node : goal.decreases-placed_node
decreases-placed_node l = size (node_tree l.node)

-- the kids so far
abbrev pub invariant-loop-at : goal.invariant-loop-at
invariant-loop-at l = PlacedSoFar (params l.names) l.count l.kids (kids_of (node_tree l.node)) l.at
