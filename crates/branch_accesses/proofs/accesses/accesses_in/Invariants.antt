use Rattle.std.proofs.Common.{◌≡◌, ◌++◌, map, drop, All}
use Rattle.instance_rows.specs.Accesses.{accesses_in}
use Rattle.branch_accesses.specs.Ids.{access_of, AccessHeld}
use Rattle.branch_accesses.proofs.accesses.accesses_in.Given as goal

abbrev pub invariant-loop-node : goal.invariant-loop-node
invariant-loop-node g l =
    let tree = g.S.TermStore.tree l.store in
    record {
      held : All (AccessHeld (g.S.TermStore.held l.store)) l.accesses.items;
      rest : map (access_of tree) l.accesses.items ++ accesses_in (map tree (drop l.node-index l.nodes)) ≡ accesses_in (map tree l.nodes);
    }
