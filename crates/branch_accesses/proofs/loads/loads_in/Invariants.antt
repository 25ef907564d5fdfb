use Rattle.std.proofs.Common.{◌≡◌, ◌++◌, map, drop, All}
use Rattle.instance_rows.specs.Accesses.{loads_in}
use Rattle.branch_accesses.specs.Ids.{load_of, LoadHeld}
use Rattle.branch_accesses.proofs.loads.loads_in.Given as goal

abbrev pub invariant-loop-node : goal.invariant-loop-node
invariant-loop-node g l =
    let tree = g.S.TermStore.tree l.store in
    record {
      held : All (LoadHeld (g.S.TermStore.held l.store)) l.loads.items;
      rest : map (load_of tree) l.loads.items ++ loads_in (map tree (drop l.node-index l.nodes)) ≡ loads_in (map tree l.nodes);
    }
