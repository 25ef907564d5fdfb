use Rattle.instance_rows.specs.Accesses.{access_at}
use Rattle.branch_accesses.specs.Ids.{access_of, AccessHeld}
use Rattle.branch_accesses.proofs.Gathered.{some_more, held_more}
use Rattle.branch_accesses.proofs.accesses.accesses_in.Goals as goal

pub loop-node-preserved : goal.loop-node-preserved
loop-node-preserved g c =
    let tree = g.S.TermStore.tree c.args.store.now in
    record {
      held = held_more (AccessHeld (g.S.TermStore.held c.args.store.now)) c.access_at.result c.loop-node.accesses.items c.put_some.new.out.items c.loop-node.invariant.held c.access_at.ensures.held c.in_ok-put_some.ensures;
      rest = some_more tree (access_of tree) access_at c.args.nodes.now c.loop-node.node-index c.node-item.result c.access_at.result c.loop-node.accesses.items c.put_some.new.out.items _
          c.loop-node-test.true c.node-item.is c.access_at.ensures.access c.in_ok-put_some.ensures c.loop-node.invariant.rest;
    }
