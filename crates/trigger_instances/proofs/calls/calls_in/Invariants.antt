use Rattle.std.proofs.Common.{◌≡◌, ◌++◌, map, drop, All}
use Rattle.qed_terms.specs.View.{view_logic}
use Rattle.instance_rows.specs.Triggers.{calls_in}
use Rattle.trigger_instances.specs.Ids.{call_of, CallHeld}
use Rattle.trigger_instances.proofs.calls.calls_in.Given as goal

abbrev pub invariant-loop-node : goal.invariant-loop-node
invariant-loop-node g l =
    let tree = g.S.TermStore.tree l.store in
    let fs = map view_logic l.functions in
    record {
      held : All (CallHeld (g.S.TermStore.held l.store)) l.calls.items;
      rest : map (call_of tree) l.calls.items ++ calls_in fs (map tree (drop l.node-index l.nodes)) ≡ calls_in fs (map tree l.nodes);
    }
