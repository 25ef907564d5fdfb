use Rattle.std.proofs.Common.{◌≡◌, All, map, take}
use Rattle.qed_terms.specs.Tree.{head_of, size}
use Rattle.qed_terms.specs.Nodes.{node_tree, kids_of}
use Rattle.qed_terms.specs.Store.{KeepsOlder}
use Rattle.stored_normals.proofs.lift.+lift_node.Given as goal

abbrev pub decreases-lift_node : goal.decreases-lift_node
decreases-lift_node g l = size (node_tree l.node)

-- the head stays; the ids so far stand for the kids so far
abbrev pub invariant-loop-at : goal.invariant-loop-at
invariant-loop-at g l =
    let tree = g.S.TermStore.tree in
    let held = g.S.TermStore.held in
    record {
      same_head : l.head ≡ head_of (node_tree l.node);
      kept : KeepsOlder (held l.initial.store) (held l.store) (tree l.initial.store) (tree l.store);
      ids_held : All (held l.store) l.kids.items;
      so_far : map (tree l.store) l.kids.items ≡ take l.at (kids_of (node_tree l.node));
    }
