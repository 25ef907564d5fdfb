use Rattle.std.proofs.Common.{◌≡◌, ◌++◌, map, drop, All}
use Rattle.qed_terms.specs.Tree.{size}
use Rattle.forall_instances.specs.Nodes.{nodes_each}
use Rattle.forall_instances.proofs.nodes.+push_nodes_with.Given as goal

abbrev pub decreases-push_nodes_with : goal.decreases-push_nodes_with
decreases-push_nodes_with g l = size (g.S.TermStore.tree l.store.now l.id)

-- what is there and the nodes of the kids that are left make the whole
abbrev pub invariant-loop-kid : goal.invariant-loop-kid
invariant-loop-kid g l =
    let tree = g.S.TermStore.tree l.store in
    record {
      held : All (g.S.TermStore.held l.store) l.out.items;
      nodes : map tree l.out.items ++ nodes_each l.name (map tree (drop l.kid-index l.kids)) ≡ map tree l.initial.out.items ++ nodes_each l.name (map tree l.kids);
    }
