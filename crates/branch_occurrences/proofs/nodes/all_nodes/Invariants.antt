use Rattle.std.proofs.Common.{◌≡◌, ◌++◌, map, drop, All}
use Rattle.instance_rows.specs.Occurrences.{nodes_among}
use Rattle.branch_occurrences.proofs.nodes.all_nodes.Given as goal

-- what is there and the nodes of the formulas that are left make the whole
abbrev pub invariant-loop-id : goal.invariant-loop-id
invariant-loop-id g l =
    let tree = g.S.TermStore.tree l.store in
    record {
      held : All (g.S.TermStore.held l.store) l.out.items;
      nodes : map tree l.out.items ++ nodes_among (map tree (drop l.id-index l.ids)) ≡ map tree l.initial.out.items ++ nodes_among (map tree l.ids);
    }
