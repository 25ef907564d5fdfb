use Rattle.instance_rows.specs.Accesses.{load_at}
use Rattle.branch_accesses.specs.Ids.{load_of, LoadHeld}
use Rattle.branch_accesses.proofs.Gathered.{some_more, held_more}
use Rattle.branch_accesses.proofs.loads.loads_in.Goals as goal

pub loop-node-preserved : goal.loop-node-preserved
loop-node-preserved g c =
    let tree = g.S.TermStore.tree c.args.store.now in
    record {
      held = held_more (LoadHeld (g.S.TermStore.held c.args.store.now)) c.load_at.result c.loop-node.loads.items c.put_some.new.out.items c.loop-node.invariant.held c.load_at.ensures.held c.in_ok-put_some.ensures;
      rest = some_more tree (load_of tree) load_at c.args.nodes.now c.loop-node.node-index c.node-item.result c.load_at.result c.loop-node.loads.items c.put_some.new.out.items _
          c.loop-node-test.true c.node-item.is c.load_at.ensures.load c.in_ok-put_some.ensures c.loop-node.invariant.rest;
    }
