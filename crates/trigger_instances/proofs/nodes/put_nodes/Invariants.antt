use Rattle.std.proofs.Common.{map, take}
use Rattle.qed_terms.specs.View.{view_logic}
use Rattle.instance_rows.specs.Candidates.{by_nodes}
use Rattle.branch_accesses.specs.Ids.{access_of}
use Rattle.forall_instances.specs.Foralls.{forall_of}
use Rattle.trigger_instances.specs.Ids.{call_of}
use Rattle.trigger_instances.specs.Puts.{Puts}
use Rattle.trigger_instances.proofs.nodes.put_nodes.Given as goal

-- those by the nodes so far are put
abbrev pub invariant-loop-node : goal.invariant-loop-node
invariant-loop-node g l =
    let tree = g.S.TermStore.tree in
    let held = g.S.TermStore.held in
    let first = tree l.initial.store in
    Puts l.closed (held l.initial.store) (held l.store) first (tree l.store) l.initial.table l.table l.initial.out.items l.out.items
    (by_nodes (map view_logic l.functions) (map (access_of first) l.accesses) (map (call_of first) l.calls) (forall_of first l.quantified) (map first (take l.node-index l.nodes)))
