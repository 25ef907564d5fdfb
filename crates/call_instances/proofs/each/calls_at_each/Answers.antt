use Rattle.std.proofs.Common.{map}
use Rattle.qed_terms.proofs.Kept.{kept_over}
use Rattle.drawn_instances.proofs.KidLaws.{kid_held}
use Rattle.qed_terms.specs.View.{view_logic}
use Rattle.instance_rows.specs.Calls.{cases_of_call}
use Rattle.node_instances.proofs.EachLaws.{each_more}
use Rattle.call_instances.proofs.each.calls_at_each.Goals as goal

pub loop-node-preserved : goal.loop-node-preserved
loop-node-preserved g c =
    let tree = g.S.TermStore.tree in
    let held = g.S.TermStore.held in
    let s = c.args.store.now in
    let s' = c.loop-node.store in
    let s'' = c.call_at_one.new.store in
    let before = c.loop-node.invariant in
    let done = c.in_ok-call_at_one.ensures in
    let node = c.node-item.result in
    let old = kid_held (held s) c.args.nodes.now c.loop-node.node-index node c.requires.nodes_held c.loop-node-test.true c.node-item.is in
    record {
      kept = kept_over (held s) (held s') (held s'') (tree s) (tree s') (tree s'') before.kept done.older;
      out_held = done.held;
      so_far =
          each_more (tree s) (cases_of_call (map view_logic c.args.functions.now)) c.args.nodes.now c.loop-node.node-index node (map (tree s) c.args.out.now.items) (map (tree s') c.loop-node.out.items)
          (map (tree s'') c.call_at_one.new.out.items) (tree s' node) c.loop-node-test.true c.node-item.is (before.kept.same_tree node old) before.so_far done.stand;
    }
