use Rattle.std.proofs.Common.{◌≡◌, refl, sym, ap, ◌∙◌, ◌+◌, ◌++◌, map, take}
use Rattle.qed_terms.specs.View.{view_logic}
use Rattle.instance_rows.specs.Candidates.{by_nodes}
use Rattle.branch_accesses.specs.Ids.{access_of}
use Rattle.drawn_instances.proofs.KidLaws.{kid_held}
use Rattle.forall_instances.specs.Foralls.{forall_of}
use Rattle.trigger_instances.specs.Ids.{by_one_node, call_of}
use Rattle.trigger_instances.proofs.Given.{puts_none, puts_then}
use Rattle.trigger_instances.proofs.Lists.{node_push, seen_more}
use Rattle.trigger_instances.proofs.Same.{accesses_same, calls_same, calls_still, forall_same}
use Rattle.trigger_instances.proofs.nodes.put_nodes.Goals as goal

pub loop-node-init : goal.loop-node-init
loop-node-init g c =
    puts_none c.args.closed.now (g.S.TermStore.held c.args.store.now) (g.S.TermStore.tree c.args.store.now) c.args.table.now c.args.out.now.items _ c.requires.kept c.requires.out refl

pub put_node-requires-clause-calls : goal.put_node-requires-clause-calls
put_node-requires-clause-calls g c =
    let tree = g.S.TermStore.tree in
    let held = g.S.TermStore.held in
    calls_still (held c.args.store.now) (held c.loop-node.store) (tree c.args.store.now) (tree c.loop-node.store) c.loop-node.invariant.older c.args.calls.now c.requires.calls

pub loop-node-preserved : goal.loop-node-preserved
loop-node-preserved g c =
    let tree = g.S.TermStore.tree in
    let held = g.S.TermStore.held in
    let s = c.args.store.now in
    let s' = c.loop-node.store in
    let s'' = c.put_node.new.store in
    let fs = map view_logic c.args.functions.now in
    let accesses = map (access_of (tree s)) c.args.accesses.now in
    let calls = map (call_of (tree s)) c.args.calls.now in
    let q = forall_of (tree s) c.args.quantified.now in
    let xs = c.args.nodes.now in
    let i = c.loop-node.node-index in
    let x = c.node-item.result in
    let k = c.loop-node.invariant.older in
    let there = kid_held (held s) xs i x c.requires.nodes c.loop-node-test.true c.node-item.is in
    let before = by_nodes fs accesses calls q (map (tree s) (take i xs)) in
    let now = by_one_node fs (map (access_of (tree s')) c.args.accesses.now) (map (call_of (tree s')) c.args.calls.now) (forall_of (tree s') c.args.quantified.now) (tree s' x) in
    let same : now ≡ by_one_node fs accesses calls q (tree s x) = λ j. by_one_node fs (accesses_same (held s) (held s') (tree s) (tree s') k c.args.accesses.now c.requires.accesses j) (calls_same (held s) (held s') (tree s) (tree s') k c.args.calls.now c.requires.calls j)
    (forall_same (held s) (held s') (tree s) (tree s') k c.args.quantified.now c.requires.quantified j) (k.same_tree x there j) in
    let whole = ap (by_nodes fs accesses calls q) (seen_more (tree s) xs i x c.loop-node-test.true c.node-item.is) ∙ node_push fs accesses calls q (map (tree s) (take i xs)) (tree s x) ∙ ap (λ d. before ++ d) (sym same) in
    puts_then (held s) (held s') (held s'') (tree s) (tree s') (tree s'') c.args.closed.now c.args.table.now c.loop-node.table c.put_node.new.table c.args.out.now.items c.loop-node.out.items c.put_node.new.out.items
    before now (by_nodes fs accesses calls q (map (tree s) (take (i + 1) xs))) whole c.loop-node.invariant c.in_ok-put_node.ensures
