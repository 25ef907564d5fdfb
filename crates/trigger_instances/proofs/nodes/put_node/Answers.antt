use Rattle.std.proofs.Common.{◌≡◌, sym, ap, map, ◌++◌}
use Rattle.qed_terms.specs.View.{view_logic}
use Rattle.instance_rows.specs.Accesses.{access_at}
use Rattle.instance_rows.specs.Candidates.{if_access, if_call}
use Rattle.instance_rows.specs.Triggers.{call_at}
use Rattle.branch_accesses.specs.Ids.{access_of}
use Rattle.forall_instances.specs.Foralls.{forall_of}
use Rattle.trigger_instances.specs.Ids.{by_one_node, call_of}
use Rattle.trigger_instances.proofs.Given.{puts_all, puts_then}
use Rattle.trigger_instances.proofs.Same.{calls_same, forall_same}
use Rattle.trigger_instances.proofs.nodes.put_node.Goals as goal

pub returns : goal.returns
returns g c =
    let tree = g.S.TermStore.tree in
    let held = g.S.TermStore.held in
    let s = c.args.store.now in
    let s' = c.put_by_access.new.store in
    let s'' = c.put_by_call.new.store in
    let fs = map view_logic c.args.functions.now in
    let q = forall_of (tree s) c.args.quantified.now in
    let first = c.in_ok-put_by_access.ensures in
    let second = c.in_ok-put_by_call.ensures in
    let k = first.older in
    let table = c.put_by_access.new.table in
    let a = if_access q (access_at (tree s c.args.node)) (map (access_of (tree s)) c.args.accesses.now) in
    let b = if_call (forall_of (tree s') c.args.quantified.now) (call_at fs (tree s' c.args.node)) (map (call_of (tree s')) c.args.calls.now) in
    let same : b ≡ if_call q (call_at fs (tree s c.args.node)) (map (call_of (tree s)) c.args.calls.now) = λ j. if_call (forall_same (held s) (held s') (tree s) (tree s') k c.args.quantified.now c.requires.quantified j) (call_at fs (k.same_tree c.args.node c.requires.node j))
    (calls_same (held s) (held s') (tree s) (tree s') k c.args.calls.now c.requires.calls j) in
    puts_then (held s) (held s') (held s'') (tree s) (tree s') (tree s'') c.args.closed.now c.args.table.now table table c.args.out.now.items c.put_by_access.new.out.items c.put_by_call.new.out.items
    a b (by_one_node fs (map (access_of (tree s)) c.args.accesses.now) (map (call_of (tree s)) c.args.calls.now) q (tree s c.args.node)) (ap (λ d. a ++ d) (sym same)) first
    (puts_all c.args.closed.now (held s') (held s'') (tree s') (tree s'') table c.put_by_access.new.out.items c.put_by_call.new.out.items b first.kept second)
