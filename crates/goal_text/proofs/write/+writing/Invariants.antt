use Rattle.std.proofs.Common.{◌+◌, ◌*◌, drop}
use Rattle.qed_terms.specs.Nodes.{kids_of, node_tree}
use Rattle.qed_terms.specs.Tree.{size}
use Rattle.goal_text.proofs.Writing.{Framing, Putting, span}
use Rattle.goal_text.proofs.write.+writing.Given as goal

-- ---- each node is larger than its kids, and over one node each function calls those of a lower rank

abbrev pub decreases-put_frame : goal.decreases-put_frame
decreases-put_frame l = 4 * size (node_tree l.node) + 2

abbrev pub decreases-put_kids : goal.decreases-put_kids
decreases-put_kids l = 4 * size (node_tree l.node)

abbrev pub decreases-put_node : goal.decreases-put_node
decreases-put_node l = 4 * size (node_tree l.node) + 3

abbrev pub decreases-put_region : goal.decreases-put_region
decreases-put_region l = 4 * size (node_tree l.node) + 1

-- ---- what is put and what is to come are the whole

abbrev pub invariant-put_kids-loop-at : goal.invariant-put_kids-loop-at
invariant-put_kids-loop-at l = let ts = kids_of (node_tree l.node) in Putting l.fn.text.items l.text.items (span l.from l.end ts) (span l.at l.end ts)

abbrev pub invariant-put_frame-loop-shape : goal.invariant-put_frame-loop-shape
invariant-put_frame-loop-shape l = Framing l.fn.text.items l.text.items l.shapes (drop l.shape-index l.shapes) (kids_of (node_tree l.node)) l.at
